use Rattle.std.proofs.Common.{◌≡◌, length, map, IfSome, Ok, Err, sym, subst, ◌∙◌}
use Rattle.mp_ports.specs.Checks.{placed}
use Rattle.mp_ports.specs.Gives.{refusal}
use Rattle.mp_movie.specs.Placed.{PlacedMovie}
use Rattle.mp_movie.specs.StandsFor.{Hold, stands_for}
use Rattle.cut_op.specs.Cut.{cut}
use Rattle.mp4edit.proofs.options.cut_to.Goals as goal

pub returns-in-Ok-clause-cut : goal.returns-in-Ok-clause-cut
returns-in-Ok-clause-cut c =
    let taken : c.replace.result ≡ c.args.movie.now = c.replace.ensures.value in
    record {
      gives = λ files holds.
          subst (λ (movie : PlacedMovie). placed 0 (cut c.args.from c.args.to (stands_for files movie)) ≡ Ok (stands_for files c.in-Ok.made)) taken
          (c.in-Ok.ensures.gives files (subst (Hold (map length files)) (sym taken) holds));
      held = λ sizes holds. c.in-Ok.ensures.held sizes (subst (Hold sizes) (sym taken) holds);
      same = tt;
    }

pub returns-in-Ok-clause-scales : goal.returns-in-Ok-clause-scales
returns-in-Ok-clause-scales c =
    λ files. c.same_movie_is_presented.ensures.scales (stands_for files c.args.movie.now) (c.parts_stand_for_movies.ensures.well_formed files c.args.movie.now c.tracks-tracks.ensures.whole)

pub returns-in-Err-clause-cut : goal.returns-in-Err-clause-cut
returns-in-Err-clause-cut c =
    let taken : c.replace.result ≡ c.args.movie.now = c.replace.ensures.value in
    let back : c.in-Err.whole ≡ c.args.movie.now = c.in-Err.ensures.back ∙ taken in
    record {
      gives = λ files holds.
          subst (λ (movie : PlacedMovie). IfSome (refusal c.in-Err.fail) (λ bad. placed 0 (cut c.args.from c.args.to (stands_for files movie)) ≡ Err bad)) taken
          (c.in-Err.ensures.gives files (subst (Hold (map length files)) (sym taken) holds));
      held = λ sizes holds. subst (Hold sizes) (sym back) holds;
      same = back;
    }

pub returns-in-Err-clause-scales : goal.returns-in-Err-clause-scales
returns-in-Err-clause-scales c =
    λ files. c.same_movie_is_presented.ensures.scales (stands_for files c.args.movie.now) (c.parts_stand_for_movies.ensures.well_formed files c.args.movie.now c.tracks-tracks.ensures.whole)

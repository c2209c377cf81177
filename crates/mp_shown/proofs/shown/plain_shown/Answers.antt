use Rattle.std.proofs.Common.{◌≡◌, ◌∙◌, ℕ, ◌*◌, sym, ap, rules, Option}
use Rattle.std.specs.Prelude.{unsigned_abs}
use Rattle.std.proofs.lemmas.Result.{IfOk-weaker}
use Rattle.mp_shown.specs.Shown.{is_at, is_at_some, is_shown, numbers_where}
use Rattle.mp_shown.proofs.Places.{tick_kept, times_some, same_numbers, no_numbers}
use Rattle.mp_shown.proofs.shown.plain_shown.Goals as goal

pub returns-in-Some : goal.returns-in-Some
returns-in-Some c =
    let track = c.args.track.now in
    let d = c.args.at.d in
    let samples : c.deref.result.now ≡ track.samples = search rules in
    let some = times_some c.args.movie_scale d c.requires.movie c.requires.range.some in
    IfOk-weaker c.numbers_at.result _ _
    (λ numbers is.
    is
    ∙ (ap (numbers_where (λ sample. is_at 1 sample c.in-Some.tick) 1) samples
    ∙ same_numbers (λ sample. is_at 1 sample c.in-Some.tick) (is_shown c.args.movie_scale track (unsigned_abs c.args.at.n) d) 1 track.samples
    (λ sample. ap (λ (tick : Option ℕ). is_at_some 1 tick sample) c.in-Some.ensures ∙ tick_kept (c.args.movie_scale * d) _ sample some)))
    c.numbers_at.ensures

pub returns-in-None : goal.returns-in-None
returns-in-None c =
    let track = c.args.track.now in
    let some = times_some c.args.movie_scale c.args.at.d c.requires.movie c.requires.range.some in
    c.new.ensures.items
    ∙ sym (no_numbers (is_shown c.args.movie_scale track (unsigned_abs c.args.at.n) c.args.at.d) 1 track.samples
    (λ sample. sym (tick_kept (c.args.movie_scale * c.args.at.d) _ sample some) ∙ ap (λ (tick : Option ℕ). is_at_some 1 tick sample) (sym c.in-None.ensures)))

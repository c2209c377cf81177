-- The film of units that are known, by what is kept of them.
use Rattle.std.proofs.Common.{◌≡◌, ◌≢◌, ℕ, ℤ, zero, suc, ◌<◌, ◌≤◌, ◌==◌, nat_lt, Bool, true, false, List, [], ◌∷◌, length, map, get_or, Option, None, Some, IfSome, Result, Ok, Err, refl, sym, ap, ◌∙◌, arith, ne_eqb}
use Rattle.std.specs.Prelude.{slice_index}
use Rattle.std.specs.List.{range_with_len}
use Rattle.std.proofs.lemmas.List.{length-map}
use Rattle.mp_frac.specs.Divisors.{most}
use Rattle.mp_ports.specs.Checks.{bad_at, first_code, unless, ◌>>=◌}
use Rattle.mp_ports.specs.declared.code.Code.{Code}
use Rattle.mp_ports.specs.declared.code.Code.TheVariants.{NoPicture, PocTie, ScaleLimit}
use Rattle.mp_ports.specs.declared.fault.Bad.{Bad}
use Rattle.mp_movie.specs.Placed.{PlacedMovie}
use Rattle.mp_movie.specs.StandsFor.{stands_for}
use Rattle.avc_units.specs.declared.reader.UnitSpan.{UnitSpan}
use Rattle.avc_slices.specs.declared.slice.Slice.{Slice}
use Rattle.avc_order.specs.Access.{first_slices}
use Rattle.avc_order.specs.Count.{after, counts_of, nothing, rule_of}
use Rattle.avc_order.specs.declared.count.Rule.{Rule}
use Rattle.avc_order.specs.declared.count.Kept.{Kept}
use Rattle.avc_order.specs.Sequence.{AreMarked}
use Rattle.avc_import.specs.declared.rate.Rate.{Rate}
use Rattle.avc_import.specs.declared.film.Shots.{Shots}
use Rattle.avc_import.specs.declared.pictures.Pictures.{Pictures}
use Rattle.avc_import.specs.declared.schedule.Schedule.{Schedule}
use Rattle.avc_import.specs.declared.units.Judged.{Judged}
use Rattle.avc_import.specs.Judged.{IsJudged}
use Rattle.avc_import.specs.Sets.{AreKept, HaveSets, ParameterSets, SequenceUnit}
use Rattle.avc_import.specs.Unit.{Known, most_frames}
use Rattle.avc_import.specs.Ranking.{first_tie, is_tied, latest, or_tie, shown_at}
use Rattle.avc_import.specs.Times.{lasting}
use Rattle.avc_import.specs.Film.{Film, film_by, film_of, film_of_sets, limit_checks, marks, schedule, scheduled, tie_at}
use Rattle.avc_import.specs.Pictures.{IsClosed}
use Rattle.avc_import.specs.Stream.{known_in, stream_movie, within_limits}
use Rattle.avc_import.specs.Movie.{AreShots, GivesShots, movie_behind, movie_in}

-- ---- counts and ties

pub length-counts : (rule : Rule) (kept : Kept) (firsts : List Slice) → length (counts_of rule kept firsts) ≡ length firsts
length-counts rule kept [] = refl
length-counts rule kept (first ∷ firsts) = ap suc (length-counts rule (after rule kept first) firsts)

-- a tie is one of the pictures
pub tie_inside : (counts : List ℤ) (syncs : List Bool) (n k : ℕ) → first_tie counts syncs n ≡ Some k → k < n
tie_inside counts syncs zero k is = absurd cc
tie_inside counts syncs (suc n) k is = by_earlier (first_tie counts syncs n) refl (λ j before. tie_inside counts syncs n j before) (is_tied counts syncs n) is
  where
    by_earlier : (earlier : Option ℕ) → first_tie counts syncs n ≡ earlier → ((j : ℕ) → first_tie counts syncs n ≡ Some j → j < n) → (tied : Bool) → or_tie earlier tied n ≡ Some k → k < suc n
    by_earlier (Some j) before inside tied is =
        let same : j ≡ k = cc in
        let below = inside j before in
        omega (arith, same, below)
    by_earlier None before inside true is = let same : n ≡ k = cc in omega (arith, same)
    by_earlier None before inside false is = absurd cc

-- ---- the film of units

both_marks : (firsts : List (Slice × UnitSpan)) → map (λ (first : Slice). first.idr) (map (λ (p : Slice × UnitSpan). p.0) firsts) ≡ marks firsts
both_marks [] = refl
both_marks (f ∷ fs) = ap (λ t. f.0.idr ∷ t) (both_marks fs)

-- the marks of pictures with their counts
pub are_marked : (units : List Slice) (firsts : List (Slice × UnitSpan)) (counts : List ℤ) (syncs : List Bool) → units ≡ map (λ (p : Slice × UnitSpan). p.0) firsts
    → syncs ≡ map (λ (first : Slice). first.idr) units → length counts ≡ length units → length firsts ≤ most_frames
    → (0 < length firsts → get_or (marks firsts) 0 false ≡ true) → AreMarked (length counts) syncs
are_marked units firsts counts syncs are marked many few begins = record {
  same = many ∙ sym (ap length marked ∙ length-map units (λ (first : Slice). first.idr));
  few = omega (arith, ap length syncs_are, length-map firsts (λ (p : Slice × UnitSpan). p.0.idr), few);
  starts = λ some. ap (λ (t : List Bool). get_or t 0 false) syncs_are ∙ begins (omega (arith, some, ap length syncs_are, length-map firsts (λ (p : Slice × UnitSpan). p.0.idr)));
}
  where
    syncs_are : syncs ≡ marks firsts
    syncs_are = marked ∙ ap (map (λ (first : Slice). first.idr)) are ∙ both_marks firsts

pub no_picture : (known : Known) (bad : Bad) (firsts : List Slice) → firsts ≡ map (λ (p : Slice × UnitSpan). p.0) (first_slices known.units) → length firsts ≡ 0 → bad ≡ bad_at NoPicture 0
    → film_of known ≡ Err bad
unfolding film_of
no_picture known bad firsts are none is = by_sequence known.sets.sequence
  where
    no_slices : length (first_slices known.units) ≡ 0
    no_slices = sym (ap length are ∙ length-map (first_slices known.units) (λ (p : Slice × UnitSpan). p.0)) ∙ none

    by_sequence : (sequence : Option SequenceUnit) → film_of_sets known sequence ≡ Err bad
    by_sequence None = ap Err (sym is)
    by_sequence (Some s) = rw (no_slices, is) refl

-- the film of these units, and what is computed of their first slices
pub record IsFilm (file size : ℕ) (known : Known) (sequence : SequenceUnit) (closed : Pictures) (counts : List ℤ) (syncs : List Bool) : Type 0 where
  pub closes : IsClosed file size known.units closed
  pub sequence_is : known.sets.sequence ≡ Some sequence
  pub some : length closed.firsts.items ≢ 0
  pub counts_are : counts ≡ counts_of (rule_of sequence.fields) nothing closed.firsts.items
  pub syncs_are : syncs ≡ map (λ (first : Slice). first.idr) closed.firsts.items

abbrev film_with : Known → SequenceUnit → Film
film_with known sequence = film_by known sequence (first_slices known.units)

same_counts : (file size : ℕ) (known : Known) (sequence : SequenceUnit) (closed : Pictures) (counts : List ℤ) (syncs : List Bool) → IsFilm file size known sequence closed counts syncs
    → counts ≡ (film_with known sequence).counts
same_counts file size known sequence closed counts syncs f = f.counts_are ∙ ap (counts_of (rule_of sequence.fields) nothing) f.closes.firsts

same_syncs : (file size : ℕ) (known : Known) (sequence : SequenceUnit) (closed : Pictures) (counts : List ℤ) (syncs : List Bool) → IsFilm file size known sequence closed counts syncs
    → syncs ≡ (film_with known sequence).syncs
same_syncs file size known sequence closed counts syncs f =
    f.syncs_are ∙ ap (map (λ (first : Slice). first.idr)) f.closes.firsts ∙ both_marks (first_slices known.units)

-- as many as first slices
counts_len : (file size : ℕ) (known : Known) (sequence : SequenceUnit) (closed : Pictures) (counts : List ℤ) (syncs : List Bool) → IsFilm file size known sequence closed counts syncs
    → length (film_with known sequence).counts ≡ length (first_slices known.units)
counts_len file size known sequence closed counts syncs f =
    length-counts (rule_of sequence.fields) nothing (map (λ (p : Slice × UnitSpan). p.0) (first_slices known.units)) ∙ length-map (first_slices known.units) (λ (p : Slice × UnitSpan). p.0)

-- the film, by its first tie
film_is : (file size : ℕ) (known : Known) (sequence : SequenceUnit) (closed : Pictures) (counts : List ℤ) (syncs : List Bool) (tie : Option ℕ) → IsFilm file size known sequence closed counts syncs
    → first_tie counts syncs (length counts) ≡ tie → film_of known ≡ unless (tie_at (first_slices known.units) tie) (film_with known sequence)
unfolding film_of
film_is file size known sequence closed counts syncs tie f is =
    rw (f.sequence_is, not_none) (ap (λ (t : Option ℕ). unless (tie_at (first_slices known.units) t) (film_with known sequence)) tie_is)
  where
    not_none : (length (first_slices known.units) == 0) ≡ false
    not_none = ne_eqb (length (first_slices known.units)) 0 (λ none. f.some (ap length f.closes.firsts ∙ length-map (first_slices known.units) (λ (p : Slice × UnitSpan). p.0) ∙ none))

    tie_is : first_tie (film_with known sequence).counts (film_with known sequence).syncs (length (film_with known sequence).counts) ≡ tie
    tie_is = rw (same_counts file size known sequence closed counts syncs f, same_syncs file size known sequence closed counts syncs f) at is

pub film_tied : (file size : ℕ) (known : Known) (sequence : SequenceUnit) (closed : Pictures) (counts : List ℤ) (syncs : List Bool) (k : ℕ) (bad : Bad) → IsFilm file size known sequence closed counts syncs
    → first_tie counts syncs (length counts) ≡ Some k → bad ≡ bad_at PocTie (slice_index closed.places.items k) → film_of known ≡ Err bad
film_tied file size known sequence closed counts syncs k bad f tie is =
    film_is file size known sequence closed counts syncs (Some k) f tie ∙ ap (λ (places : List ℕ). Err (bad_at PocTie (slice_index places k))) (sym f.closes.places) ∙ ap Err (sym is)

-- ---- its pictures as they are kept

schedule_is : (file size : ℕ) (known : Known) (sequence : SequenceUnit) (closed : Pictures) (counts : List ℤ) (syncs : List Bool) (rate : Option Rate) (number delay : ℕ) → IsFilm file size known sequence closed counts syncs
    → number ≡ length syncs → delay ≡ latest counts syncs (length counts) → scheduled (lasting rate sequence.fields.tick) number delay ≡ schedule rate (film_with known sequence)
schedule_is file size known sequence closed counts syncs rate number delay f many late =
    rw (number_is, late, same_counts file size known sequence closed counts syncs f, same_syncs file size known sequence closed counts syncs f) refl
  where
    number_is : number ≡ length counts
    number_is = many ∙ ap length f.syncs_are ∙ length-map closed.firsts.items (λ (first : Slice). first.idr) ∙ sym (ap length f.counts_are ∙ length-counts (rule_of sequence.fields) nothing closed.firsts.items)

pub film_given : (file size : ℕ) (known : Known) (sequence : SequenceUnit) (counts : List ℤ) (rate : Option Rate) (number : ℕ) (shots : Shots)
    → IsFilm file size known sequence shots.pictures counts shots.syncs.items → shots.sets ≡ known.sets → AreKept shots.sets → HaveSets shots.sets
    → shots.order.shown.items ≡ map (shown_at counts shots.syncs.items) (range_with_len 0 (length counts)) → shots.order.delay ≡ latest counts shots.syncs.items (length counts)
    → number ≡ length shots.syncs.items → shots.schedule ≡ scheduled (lasting rate sequence.fields.tick) number shots.order.delay → first_tie counts shots.syncs.items (length counts) ≡ None
    → GivesShots file size rate (film_of known) (Ok shots)
film_given file size known sequence counts rate number shots f sets kept have shown delay many times tie =
    (film_with known sequence, film_is file size known sequence shots.pictures counts shots.syncs.items None f tie, are)
  where
    counts_so : counts ≡ (film_with known sequence).counts
    counts_so = same_counts file size known sequence shots.pictures counts shots.syncs.items f

    syncs_so : shots.syncs.items ≡ (film_with known sequence).syncs
    syncs_so = same_syncs file size known sequence shots.pictures counts shots.syncs.items f

    many_counts : length (film_with known sequence).counts ≡ length (first_slices known.units)
    many_counts = counts_len file size known sequence shots.pictures counts shots.syncs.items f

    are : AreShots file size rate (film_with known sequence) shots
    are = record {
      sequence = ap (λ (s : ParameterSets). s.sequence) sets ∙ f.sequence_is;
      units = ap (λ (s : ParameterSets). s.units) sets;
      some = omega (arith, ap (λ (s : ParameterSets). length s.units) sets, kept.each, have.picture);
      few = omega (arith, many_counts, f.closes.few);
      syncs_len = length-map (first_slices known.units) (λ (p : Slice × UnitSpan). p.0.idr) ∙ sym many_counts;
      parts_len = sym (many_counts ∙ f.closes.number);
      syncs = syncs_so;
      shown = shown ∙ rw (counts_so, syncs_so) refl;
      schedule_is = times ∙ schedule_is file size known sequence shots.pictures counts shots.syncs.items rate number shots.order.delay f many delay;
      parts = f.closes.parts;
      inside = f.closes.inside;
    }

pub scale_limited : (file size : ℕ) (known : Known) (sequence : SequenceUnit) (closed : Pictures) (counts : List ℤ) (syncs : List Bool) (rate : Option Rate) (number delay : ℕ) (bad : Bad)
    → IsFilm file size known sequence closed counts syncs → number ≡ length syncs → delay ≡ latest counts syncs (length counts) → first_tie counts syncs (length counts) ≡ None
    → nat_lt most (scheduled (lasting rate sequence.fields.tick) number delay).movie_scale ≡ true → bad ≡ bad_at ScaleLimit 0
    → (film : Film) × (film_of known ≡ Ok film) × (within_limits rate film ≡ Err bad)
scale_limited file size known sequence closed counts syncs rate number delay bad f many late tie limit is =
    (film_with known sequence, film_is file size known sequence closed counts syncs None f tie, rw (limit_so) (ap Err (sym is)))
  where
    limit_so : nat_lt most (schedule rate (film_with known sequence)).movie_scale ≡ true
    limit_so = ap (λ (s : Schedule). nat_lt most s.movie_scale) (sym (schedule_is file size known sequence closed counts syncs rate number delay f many late)) ∙ limit

-- ---- the movie

pub movie_limited : (rate : Option Rate) (file : List ℕ) (known : Known) (film : Film) (bad : Bad) → film_of known ≡ Ok film → within_limits rate film ≡ Err bad → movie_behind rate file known ≡ Err bad
movie_limited rate file known film bad found limited = rw (found, limited) refl

pub movie_refused : (rate : Option Rate) (file : List ℕ) (known : Known) (bad : Bad) → film_of known ≡ Err bad → movie_behind rate file known ≡ Err bad
movie_refused rate file known bad refused = rw refused refl

pub movie_given : (rate : Option Rate) (file : List ℕ) (known : Known) (film : Film) → film_of known ≡ Ok film → first_code (limit_checks film (schedule rate film)) ≡ None
    → movie_behind rate file known ≡ Ok (movie_in rate file film)
movie_given rate file known film found none = rw (found, none) refl

pub limit_is : (rate : Option Rate) (film : Film) (code : Code) (bad : Bad) → first_code (limit_checks film (schedule rate film)) ≡ Some code → bad ≡ bad_at code 0 → within_limits rate film ≡ Err bad
limit_is rate film code bad limit is = rw limit (ap Err (sym is))

-- the movie of a stream is that of its units
pub stream_given : (rate : Option Rate) (file : List ℕ) (known : Known) → known_in file ≡ Ok known → stream_movie rate file ≡ movie_behind rate file known
stream_given rate file known is = rw is (by_film (film_of known))
  where
    by_film : (found : Result Film Bad) → ((found >>= within_limits rate) >>= (λ film. Ok (movie_in rate file film))) ≡ (found >>= (λ film. within_limits rate film >>= (λ whole. Ok (movie_in rate file whole))))
    by_film (Ok film) = refl
    by_film (Err bad) = refl

pub stream_refused : (rate : Option Rate) (file : List ℕ) (bad : Bad) → known_in file ≡ Err bad → stream_movie rate file ≡ Err bad
stream_refused rate file bad is = rw is refl

-- ---- by what the calls answer

pub movie_there : (told : Option (List ℕ)) (rate : Option Rate) (file size : ℕ) (judged : Judged) (movie : PlacedMovie) → (j : IsJudged file size told judged)
    → ((files : List (List ℕ)) → movie_behind rate (get_or files file []) j.known ≡ Ok (stands_for files movie))
    → IfSome told (λ b. (files : List (List ℕ)) → get_or files file [] ≡ b → stream_movie rate b ≡ Ok (stands_for files movie))
movie_there None rate file size judged movie j given = tt
movie_there (Some b) rate file size judged movie j given =
    λ files is. stream_given rate b j.known j.told ∙ ap (λ (t : List ℕ). movie_behind rate t j.known) (sym is) ∙ given files

pub movie_not_there : (told : Option (List ℕ)) (rate : Option Rate) (file size : ℕ) (judged : Judged) (bad : Bad) → (j : IsJudged file size told judged)
    → ((files : List (List ℕ)) → movie_behind rate (get_or files file []) j.known ≡ Err bad)
    → IfSome told (λ b. (files : List (List ℕ)) → get_or files file [] ≡ b → stream_movie rate b ≡ Err bad)
movie_not_there None rate file size judged bad j given = tt
movie_not_there (Some b) rate file size judged bad j given =
    λ files is. stream_given rate b j.known j.told ∙ ap (λ (t : List ℕ). movie_behind rate t j.known) (sym is) ∙ given files

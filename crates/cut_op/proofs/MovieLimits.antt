-- The first limit of a cut movie is the first of four that one of its tracks passes.
use Rattle.std.proofs.Common.{◌≡◌, ℕ, ◌+◌, ◌<◌, ◌≤◌, Bool, true, false, cond, ltb, ◌||◌, List, [], ◌∷◌, length, map, Option, Some, None, refl, sym, ap, ◌∙◌, arith}
use Rattle.std.specs.List.{AllByRecursion, AllZip, list_any}
use Rattle.std.proofs.lemmas.Bool.{le-ltb}
use Rattle.mp_ports.specs.declared.code.Code.{Code}
use Rattle.mp_ports.specs.declared.code.Code.TheVariants.{DeltaLimit, OffsetLimit, DurationLimit, StartLimit, SizeLimit, EntryLimit, SegmentLimit}
use Rattle.mp_ports.specs.Checks.{first_code}
use Rattle.mp_columns.specs.declared.columns.TheConstants.{MOST_ITEMS}
use Rattle.mp_movie.specs.Limits.{most_tracks}
use Rattle.mp_movie.specs.PartsFit.{first_limit, passes}
use Rattle.mp_movie.specs.Placed.{PlacedMovie, PlacedTrack, sample_count}
use Rattle.cut_op.specs.declared.limits.Passed.{Passed}
use Rattle.cut_op.specs.Planned.{any_passed, first_passed}

-- which of the limits a track passes; the others it doesn't
pub record HasPassed (track : PlacedTrack) (passed : Passed) : Type 0 where
  pub durations : passes DeltaLimit track ≡ passed.durations
  pub offsets : passes OffsetLimit track ≡ passed.offsets
  pub total : passes DurationLimit track ≡ passed.total
  pub starts : passes StartLimit track ≡ passed.starts
  pub sizes : passes SizeLimit track ≡ false
  pub entries : passes EntryLimit track ≡ false
  pub segments : passes SegmentLimit track ≡ false

module _ (p : PlacedTrack → Bool) (q : Passed → Bool) (each : (track : PlacedTrack) (passed : Passed) → HasPassed track passed → p track ≡ q passed) where
  all_asked : (tracks : List PlacedTrack) (all : List Passed) → AllZip HasPassed tracks all → list_any p tracks ≡ list_any q all
  all_asked [] [] has = refl
  all_asked [] (passed ∷ all) has = absurd has
  all_asked (track ∷ tracks) [] has = absurd has
  all_asked (track ∷ tracks) (passed ∷ all) has = rw (each track passed has.0, all_asked tracks all has.1) refl

none_of : (tracks : List PlacedTrack) (all : List Passed) (p : PlacedTrack → Bool) → ((track : PlacedTrack) (passed : Passed) → HasPassed track passed → p track ≡ false) → AllZip HasPassed tracks all → list_any p tracks ≡ false
none_of [] [] p each has = refl
none_of [] (passed ∷ all) p each has = absurd has
none_of (track ∷ tracks) [] p each has = absurd has
none_of (track ∷ tracks) (passed ∷ all) p each has = rw (each track passed has.0, none_of tracks all p each has.1) refl

durations_any : (all : List Passed) → list_any (λ passed. passed.durations) all ≡ (any_passed all).durations
durations_any [] = refl
durations_any (passed ∷ all) = ap (λ (b : Bool). passed.durations || b) (durations_any all)

offsets_any : (all : List Passed) → list_any (λ passed. passed.offsets) all ≡ (any_passed all).offsets
offsets_any [] = refl
offsets_any (passed ∷ all) = ap (λ (b : Bool). passed.offsets || b) (offsets_any all)

total_any : (all : List Passed) → list_any (λ passed. passed.total) all ≡ (any_passed all).total
total_any [] = refl
total_any (passed ∷ all) = ap (λ (b : Bool). passed.total || b) (total_any all)

starts_any : (all : List Passed) → list_any (λ passed. passed.starts) all ≡ (any_passed all).starts
starts_any [] = refl
starts_any (passed ∷ all) = ap (λ (b : Bool). passed.starts || b) (starts_any all)

pub limit_is : (movie : PlacedMovie) (all : List Passed) → AllZip HasPassed movie.tracks all → sample_count movie.tracks ≤ MOST_ITEMS → length movie.tracks ≤ most_tracks
    → first_limit movie ≡ first_passed (any_passed all)
limit_is movie all has few_samples few_tracks =
    let tracks = movie.tracks in
    let first = all_asked (passes DeltaLimit) (λ passed. passed.durations) (λ track passed h. h.durations) tracks all has ∙ durations_any all in
    let second = all_asked (passes OffsetLimit) (λ passed. passed.offsets) (λ track passed h. h.offsets) tracks all has ∙ offsets_any all in
    let third = all_asked (passes DurationLimit) (λ passed. passed.total) (λ track passed h. h.total) tracks all has ∙ total_any all in
    let fourth = all_asked (passes StartLimit) (λ passed. passed.starts) (λ track passed h. h.starts) tracks all has ∙ starts_any all in
    let sizes = none_of tracks all (passes SizeLimit) (λ track passed h. h.sizes) has in
    let entries = none_of tracks all (passes EntryLimit) (λ track passed h. h.entries) has in
    let segments = none_of tracks all (passes SegmentLimit) (λ track passed h. h.segments) has in
    let samples = le-ltb MOST_ITEMS (sample_count tracks) few_samples in
    let many = le-ltb most_tracks (length tracks) few_tracks in
    rw (first, second, third, fourth, sizes, samples, many, entries, segments) refl

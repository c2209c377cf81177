-- The first limit that a movie passes where a track shows other edits.
use Rattle.std.proofs.Common.{◌≡◌, ◌≢◌, ℕ, zero, suc, ◌*◌, ◌^◌, ◌<◌, ◌==◌, ◌||◌, ◌&&◌, nat_le, nat_lt, Bool, true, false, not, List, [], ◌∷◌, length, map, get_or, set, Some, refl, sym, ap, ◌∙◌, subst, arith, inl, inr}
use Rattle.std.specs.List.{AllByRecursion, list_any}
use Rattle.std.specs.Int.{◌∣◌}
use Rattle.std.proofs.lemmas.Bool.{cases_Bool, eq-eqb, eqb-true, leb-false}
use Rattle.std.proofs.lemmas.List.{length-map}
use Rattle.mp_columns.specs.declared.columns.TheConstants.{MOST_ITEMS}
use Rattle.mp_ports.specs.declared.code.Code.{Code}
use Rattle.mp_ports.specs.declared.code.Code.TheVariants.{DeltaLimit, SizeLimit, EntryLimit, SegmentLimit, OffsetLimit, DurationLimit, StartLimit}
use Rattle.mp_timeline.specs.declared.segment.Segment.{Segment}
use Rattle.mp_edits.specs.EditBox.{segments_in}
use Rattle.mp_edits.specs.Segments.{total}
use Rattle.mp_movie.specs.Limits.{most_tracks}
use Rattle.mp_movie.specs.Placed.{PlacedTrack, PlacedMovie}
use Rattle.mp_movie.specs.PartsFit.{first_limit, limits, passes}
use Rattle.mp_movie.specs.WellFormed.{AreDistinct}
use Rattle.track_ops.specs.Kept.{kept_in_scale, lasts}
use Rattle.track_ops.specs.KeptShown.{kept_shown, others_last_long, shown_limit}
use Rattle.track_ops.specs.KeptTimes.{kept_retimed}
use Rattle.track_ops.specs.Summed.{within}
use Rattle.track_ops.proofs.AddedLimits.{early, few}
use Rattle.track_ops.proofs.JoinedLimits.{multiples_whole}
use Rattle.track_ops.proofs.LimitsStay.{none_holds}
use Rattle.track_ops.proofs.Lists.{any_same, neither, sum_same}
use Rattle.track_ops.proofs.LongEdits.{one_long}
use Rattle.track_ops.proofs.PartsStay.{numbers_distinct}
use Rattle.track_ops.proofs.TrackIsSet.{IsThere, five, none_at, same_five}
use Rattle.track_ops.proofs.TracksAt.{all_at, any_set, length_set, map_at, sum_set}

pub unequal : (a b : ℕ) → a ≢ b → (a == b) ≡ false
unequal a b differ = elim (cases_Bool (a == b)) [
  | inl same ↦ absurd (differ (eqb-true a b same))
  | inr other ↦ other
]

or_swap : (a b c : Bool) → (a || (b || c)) ≡ (b || (a || c))
or_swap true true c = refl
or_swap true false c = refl
or_swap false b c = refl

-- a test of the one that is set, and of all of another number
module _ (number : ℕ) (test : PlacedTrack → Bool) (other_test : PlacedTrack → Bool) where
  abbrev others : List PlacedTrack → Bool
  others tracks = list_any (λ (t : PlacedTrack). not (t.number == number) && other_test t) tracks

  all_others : (f : PlacedTrack → PlacedTrack) (tracks : List PlacedTrack) → AllByRecursion (λ n. n ≢ number) (map (λ (t : PlacedTrack). t.number) tracks) → AllByRecursion (λ t. test (f t) ≡ other_test t) tracks
      → list_any test (map f tracks) ≡ others tracks
  all_others f [] distinct same = refl
  all_others f (track ∷ tracks) distinct same = rw (unequal track.number number distinct.0, same.0, all_others f tracks distinct.1 same.1) refl

  pub any_but : (f : PlacedTrack → PlacedTrack) (tracks : List PlacedTrack) (at : ℕ) (new d : PlacedTrack) → AreDistinct (map (λ (t : PlacedTrack). t.number) tracks) → at < length tracks → (get_or tracks at d).number ≡ number
      → AllByRecursion (λ t. test (f t) ≡ other_test t) tracks → list_any test (set (map f tracks) at new) ≡ (test new || others tracks)
  any_but f [] at new d distinct lt is same = absurd (omega (arith, lt))
  any_but f (track ∷ tracks) zero new d distinct lt is same =
      rw (eq-eqb track.number number is)
      (ap (λ (b : Bool). test new || b) (all_others f tracks (subst (λ (n : ℕ). AllByRecursion (λ other. other ≢ n) (map (λ (t : PlacedTrack). t.number) tracks)) is distinct.0) same.1))
  any_but f (track ∷ tracks) (suc at) new d distinct lt is same =
      let differ : track.number ≢ number = λ e. all_at (λ n. n ≢ track.number) (map (λ (t : PlacedTrack). t.number) tracks) at d.number (omega (arith, lt, length-map tracks (λ (t : PlacedTrack). t.number))) distinct.0
      (map_at (λ (t : PlacedTrack). t.number) tracks at d d.number (omega (arith, lt)) ∙ (is ∙ sym e)) in
      rw (unequal track.number number differ, same.0) (ap (λ (b : Bool). other_test track || b) (any_but f tracks at new d distinct.1 (omega (arith, lt)) is same.1) ∙ or_swap (other_test track) (test new) (others tracks))

-- the durations of the others, in the new scale
others_long : (old new : ℕ) (tracks : List PlacedTrack) → 0 < old → old ∣ new → list_any (passes DurationLimit) tracks ≡ false
    → AllByRecursion (λ (t : PlacedTrack). passes DurationLimit (kept_in_scale old new t) ≡ nat_le (2 ^ 62 * old) (within (lasts t) * new)) tracks
others_long old new [] some multiple none = tt
others_long old new (track ∷ tracks) some multiple none =
    let both = neither (passes DurationLimit track) (list_any (passes DurationLimit) tracks) none in
    let short = leb-false (2 ^ 62) (lasts track) both.0 in
    let same : lasts track ≡ within (lasts track) = omega (arith, short) in (
      one_long old new track some (multiples_whole old new (segments_in track.edits) multiple) ∙ ap (λ (n : ℕ). nat_le (2 ^ 62 * old) (n * new)) same,
      others_long old new tracks some multiple both.1,
    )

-- with these edits, exactly
pub limit_shown : (number at media scale : ℕ) (edits : List Segment) (track : PlacedTrack) (movie : PlacedMovie) → IsThere number at track movie → movie.scale ∣ scale
    → first_limit (kept_shown at track media edits scale movie) ≡ shown_limit movie track media edits scale
limit_shown number at media scale edits track movie h multiple =
    let tests = none_holds (limits movie) h.fits in
    five _ _ _ _ _ _ _ _ _ (set_to SizeLimit (λ t. refl) tests.1.1.1.1.0 ∙ was SizeLimit refl tests.1.1.1.1.0)
    (ap (λ (n : ℕ). nat_lt MOST_ITEMS n)
    (sum_set (λ (t : PlacedTrack). length t.deltas) in_scale at new track (length-map track.deltas _ ∙ sym (ap (λ (t : PlacedTrack). length t.deltas) (map_at (kept_in_scale movie.scale scale) movie.tracks at track track h.inside ∙ ap (kept_in_scale movie.scale scale) h.is)))
    ∙ sum_same (λ (t : PlacedTrack). length t.deltas) (kept_in_scale movie.scale scale) (λ t. refl) movie.tracks)
    ∙ tests.1.1.1.1.1.0)
    (ap (λ (n : ℕ). nat_lt most_tracks n) (length_set in_scale at new ∙ length-map movie.tracks (kept_in_scale movie.scale scale)) ∙ tests.1.1.1.1.1.1.0)
    (set_to EntryLimit (λ t. refl) tests.1.1.1.1.1.1.1.0 ∙ was EntryLimit refl tests.1.1.1.1.1.1.1.0)
    ∙ same_five _ _ _ _ _ _ _ _ _ _ (set_to DeltaLimit (λ t. refl) tests.0) (set_to OffsetLimit (λ t. refl) tests.1.0) (long tests.1.1.0) (set_to StartLimit (early movie.scale scale) tests.1.1.1.0)
    (set_to SegmentLimit (few movie.scale scale) tests.1.1.1.1.1.1.1.1.0)
  where
    new : PlacedTrack
    new = kept_retimed media (Some edits) track

    in_scale : List PlacedTrack
    in_scale = map (kept_in_scale movie.scale scale) movie.tracks

    inside : at < length in_scale
    inside = omega (arith, h.inside, length-map movie.tracks (kept_in_scale movie.scale scale))

    set_to : (code : Code) → ((t : PlacedTrack) → passes code (kept_in_scale movie.scale scale t) ≡ passes code t) → list_any (passes code) movie.tracks ≡ false → list_any (passes code) (set in_scale at new) ≡ passes code new
    set_to code same none = any_set (passes code) in_scale at new inside (any_same (passes code) (kept_in_scale movie.scale scale) same movie.tracks ∙ none)

    was : (code : Code) → passes code new ≡ passes code track → list_any (passes code) movie.tracks ≡ false → passes code new ≡ false
    was code same none = same ∙ (ap (passes code) (sym h.is) ∙ none_at (passes code) movie.tracks at track h.inside none)

    long : list_any (passes DurationLimit) movie.tracks ≡ false → list_any (passes DurationLimit) (set in_scale at new) ≡ (nat_le (2 ^ 62) (total edits) || others_last_long track.number movie.scale scale movie.tracks)
    long none =
        any_but track.number (passes DurationLimit) (λ (t : PlacedTrack). nat_le (2 ^ 62 * movie.scale) (within (lasts t) * scale)) (kept_in_scale movie.scale scale) movie.tracks at new track (numbers_distinct movie h.whole) h.inside
        (ap (λ (t : PlacedTrack). t.number) h.is) (others_long movie.scale scale movie.tracks h.whole.bare.header.some_scale multiple none)

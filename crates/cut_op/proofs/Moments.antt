-- A cut track shows in its time what the track shows in the range, all times being in one unit.
use Rattle.std.proofs.Common.{◌≡◌, ℕ, ◌+◌, ◌*◌, ◌<◌, Bool, true, false, cond, ltb, List, [], ◌∷◌, ◌++◌, map, filter, take, drop, Option, Some, None, pos, ◌-ℤ◌, refl, sym, ap, subst, ◌∙◌, inl, inr}
use Rattle.std.specs.List.{AllByRecursion, list_any}
use Rattle.std.proofs.lemmas.Bool.{cases_lt, lt-ltb, le-ltb}
use Rattle.std.proofs.lemmas.List.{append-nil}
use Rattle.std.proofs.lemmas.List.Elements.{filter-append}
use Rattle.mp_timeline.specs.declared.segment.Segment.{Segment}
use Rattle.mp_timeline.specs.Movie.{SampleRecord}
use Rattle.mp_edits.specs.Segments.{shifted}
use Rattle.mp_shown.specs.Segments.{in_unit, pieces}
use Rattle.mp_shown.specs.Shown.{media_time, is_at_some, seen}
use Rattle.mp_shown.specs.Law.{PiecesShow}
use Rattle.mp_clip.specs.Clipped.{starts}
use Rattle.track_ops.specs.Told.{or_empty}
use Rattle.cut_op.specs.Needed.{is_needed, is_sync_sample, first_kept, through_last, kept_samples}
use Rattle.cut_op.specs.Track.{first_decode, late_by, moved_sample}
use Rattle.cut_op.proofs.Keeping.{none_of, front, behind, split, none-kept}
use Rattle.cut_op.proofs.Units.{pieces-finer, unneeded}
use Rattle.cut_op.proofs.Moving.{seen_at, seen-moved, seen-never, starts_stay, time-empty, time-moved}

-- samples of which the segments need none
abbrev NoneNeeded : List Segment → List SampleRecord → Type 0
NoneNeeded segments samples = AllByRecursion (λ sample. is_needed segments sample ≡ false) samples

-- the samples around those that are kept
record Around (segments : List Segment) (samples kept : List SampleRecord) : Type 0 where
  pub before : List SampleRecord
  pub after : List SampleRecord
  pub split : samples ≡ before ++ kept ++ after
  pub before_none : NoneNeeded segments before
  pub after_none : NoneNeeded segments after

around : (segments : List Segment) (samples : List SampleRecord) → Around segments samples (kept_samples segments samples)
around segments samples = by (list_any (is_needed segments) samples) refl
  where
    by : (b : Bool) → list_any (is_needed segments) samples ≡ b → Around segments samples (kept_samples segments samples)
    by true h = record {
      before = take (first_kept is_sync_sample (is_needed segments) samples) samples;
      after = drop (through_last (is_needed segments) samples) samples;
      split = split is_sync_sample (is_needed segments) samples h;
      before_none = front is_sync_sample (is_needed segments) samples;
      after_none = behind (is_needed segments) samples;
    }
    by false h = record {
      before = samples;
      after = [];
      split = sym (ap (λ (kept : List SampleRecord). samples ++ kept ++ []) (none-kept is_sync_sample (is_needed segments) samples h) ∙ (append-nil (samples ++ []) ∙ append-nil samples));
      before_none = none_of (is_needed segments) samples h;
      after_none = tt;
    }

filter-none : (p : SampleRecord → Bool) (samples : List SampleRecord) → AllByRecursion (λ sample. p sample ≡ false) samples → filter p samples ≡ []
filter-none p [] h = refl
filter-none p (sample ∷ samples) h = rw h.0 (filter-none p samples h.1)

-- what isn't needed isn't at the time that is shown
none_at : (k at time : ℕ) (segments : List Segment) (samples : List SampleRecord) → 0 < k → media_time (map (in_unit k k) segments) at ≡ Some time → NoneNeeded segments samples
    → AllByRecursion (λ sample. is_at_some k (Some time) sample ≡ false) samples
none_at k at time segments [] some is h = tt
none_at k at time segments (sample ∷ samples) some is h = (unneeded k segments at time sample some h.0 is, none_at k at time segments samples some is h.1)

-- the samples around show nothing
seen-around : (entries : List (List ℕ)) (k at : ℕ) (segments : List Segment) (samples kept : List SampleRecord) → 0 < k → Around segments samples kept
    → seen_at entries k (media_time (map (in_unit k k) segments) at) kept ≡ seen_at entries k (media_time (map (in_unit k k) segments) at) samples
seen-around entries k at segments samples kept some ar = by (media_time (map (in_unit k k) segments) at) refl
  where
    by : (time : Option ℕ) → media_time (map (in_unit k k) segments) at ≡ time → seen_at entries k (media_time (map (in_unit k k) segments) at) kept ≡ seen_at entries k (media_time (map (in_unit k k) segments) at) samples
    by None is = rw (is) (seen-never entries k kept ∙ sym (seen-never entries k samples))
    by (Some time) is =
        let p = is_at_some k (Some time) in
        let all : filter p samples ≡ filter p kept =
        ap (filter p) ar.split
        ∙ (filter-append p (ar.before ++ kept) ar.after
        ∙ (ap (λ (xs : List SampleRecord). xs ++ filter p ar.after) (filter-append p ar.before kept)
        ∙ (ap (λ (xs : List SampleRecord). (xs ++ filter p kept) ++ filter p ar.after) (filter-none p ar.before (none_at k at time segments ar.before some is ar.before_none))
        ∙ (ap (λ (xs : List SampleRecord). filter p kept ++ xs) (filter-none p ar.after (none_at k at time segments ar.after some is ar.after_none))
        ∙ append-nil (filter p kept))))) in
        rw (is) (sym (ap (map (seen entries)) all))

-- what the pieces show, of all samples
seen-pieces : PiecesShow → (entries : List (List ℕ)) (k from to at : ℕ) (segments : List Segment) (samples : List SampleRecord) → 0 < k
    → seen_at entries k (media_time (map (in_unit k k) (pieces from to segments)) at) samples
    ≡ cond (ltb (from * k + at) (to * k)) (seen_at entries k (media_time (map (in_unit k k) segments) (from * k + at)) samples) []
seen-pieces law entries k from to at segments samples some =
    ap (λ (ps : List Segment). seen_at entries k (media_time ps at) samples) (sym (pieces-finer k from to segments some))
    ∙ elim (cases_lt (from * k + at) (to * k)) [
      | inl lt ↦
          rw (lt-ltb (from * k + at) (to * k) lt) (ap (λ (time : Option ℕ). seen_at entries k time samples) (law.within (map (in_unit k k) segments) (from * k) (to * k) at lt))
      | inr le ↦
          rw (le-ltb (from * k + at) (to * k) le) (ap (λ (time : Option ℕ). seen_at entries k time samples) (law.after (map (in_unit k k) segments) (from * k) (to * k) at le) ∙ seen-never entries k samples)
    ]

-- what the kept samples show by the pieces, moved together
pub seen-cut : PiecesShow → (entries : List (List ℕ)) (k from to at : ℕ) (segments : List Segment) (samples : List SampleRecord) → 0 < k
    → (kept : List SampleRecord) → kept ≡ kept_samples (pieces from to segments) samples
    → seen_at entries k (media_time (map (in_unit k k) (or_empty (map (shifted (pos (late_by (pieces from to segments) kept) -ℤ pos (first_decode kept))) (pieces from to segments)))) at)
    (map (moved_sample (first_decode kept) (late_by (pieces from to segments) kept)) kept)
    ≡ cond (ltb (from * k + at) (to * k)) (seen_at entries k (media_time (map (in_unit k k) segments) (from * k + at)) samples) []
seen-cut law entries k from to at segments samples some kept kept_is =
    let ps = pieces from to segments in
    let first = first_decode kept in
    let late = late_by ps kept in
    ap (λ (time : Option ℕ). seen_at entries k time (map (moved_sample first late) kept)) (time-empty k at (map (shifted (pos late -ℤ pos first)) ps))
    ∙ (seen-moved entries first late k _ _ kept (time-moved k at (pos late -ℤ pos first) ps (starts_stay first (starts ps)))
    ∙ (seen-around entries k at ps samples kept some (subst (Around ps samples) (sym kept_is) (around ps samples))
    ∙ seen-pieces law entries k from to at segments samples some))

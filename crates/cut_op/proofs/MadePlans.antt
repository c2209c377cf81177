-- What the plans of all tracks make: the tracks of the cut, which pass so much.
use Rattle.std.proofs.Common.{◌≡◌, ℕ, ℤ, zero, suc, pos, ◌+◌, ◌-◌, ◌*◌, ◌/◌, ◌^◌, ◌<◌, ◌≤◌, ◌*ℤ◌, max, min, Bool, true, false, cond, ltb, leb, not, ◌&&◌, ◌||◌, List, [], ◌∷◌, ◌++◌, length, map, take, drop, Option, Some, None, refl, sym, ap, subst, ◌∙◌, arith, inl, inr}
use Rattle.std.specs.Prelude.{option_map, slice_range, sum, unsigned_abs, All}
use Rattle.std.specs.Int.{w32, FitsUnsigned, ◌∣◌}
use Rattle.std.specs.List.{AllByRecursion, AllZip, flat_map, list_all, sum_by}
use Rattle.std.proofs.lemmas.Bool.{le-ltb}
use Rattle.std.proofs.lemmas.Int.{ints}
use Rattle.std.proofs.lemmas.List.{length-map}
use Rattle.std.proofs.lemmas.List.Sums.{sum_by-cons}
use Rattle.mp_frac.specs.declared.time.Frac.{Frac}
use Rattle.mp_frac.specs.Law.{WholenessIsDivision}
use Rattle.mp_frac.specs.Time.{IsWhole}
use Rattle.mp_ports.specs.declared.code.Code.TheVariants.{DeltaLimit, OffsetLimit, DurationLimit, StartLimit, SizeLimit, EntryLimit, SegmentLimit}
use Rattle.mp_timeline.specs.declared.segment.Segment.{Segment}
use Rattle.mp_timeline.specs.declared.segment.Segment.TheVariants.{Media}
use Rattle.mp_timeline.specs.Movie.{TrackRecord}
use Rattle.mp_entries.specs.Description.{most_entries}
use Rattle.mp_edits.specs.EditBox.{AreEdits}
use Rattle.mp_edits.specs.Segments.{duration, most_segments}
use Rattle.mp_movie.specs.CanBeWritten.{CanBeWritten}
use Rattle.mp_movie.specs.Durations.{extent}
use Rattle.mp_movie.specs.PartsFit.{is_long}
use Rattle.mp_movie.specs.Placed.{PlacedTrack, naturals, sample_count}
use Rattle.mp_movie.specs.StandsFor.{HoldTrack, track_for}
use Rattle.mp_movie.specs.WholeParts.{AreColumns}
use Rattle.mp_shown.specs.Segments.{explicit, in_unit, part, pieces, segments_of, whole_media}
use Rattle.mp_clip.specs.declared.shape.ClipShape.{ClipShape}
use Rattle.mp_clip.specs.Clipped.{TellsBack, as_times, starts, unit}
use Rattle.mp_clip.specs.Shape.{IsShape, least}
use Rattle.track_ops.specs.Law.{LeastScalesAreFound}
use Rattle.track_ops.specs.Told.{all_some, or_empty}
use Rattle.cut_op.specs.declared.limits.Passed.{Passed}
use Rattle.cut_op.specs.declared.plan.TrackPlan.{TrackPlan}
use Rattle.cut_op.specs.Cut.{cut_settled}
use Rattle.cut_op.specs.Placed.{placed_cut}
use Rattle.cut_op.specs.Planned.{CanEdit, HasEdits, IsTrackPlan, MakePlans, MakesPlan, any_passed, first_passed, passed_of}
use Rattle.cut_op.specs.Track.{track_pieces}
use Rattle.cut_op.proofs.AllScales.{lasts, multiple_of}
use Rattle.cut_op.proofs.CutParts.{cut_columns}
use Rattle.cut_op.proofs.CutScales.{all_parted}
use Rattle.cut_op.proofs.CutSettles.{cut_is_placed}
use Rattle.cut_op.proofs.FrontSums.{by_recursion}
use Rattle.cut_op.proofs.KeptRuns.{is_short, long_is}
use Rattle.cut_op.proofs.KeptSamples.{length-slice}
use Rattle.cut_op.proofs.MovieLimits.{HasPassed}
use Rattle.cut_op.proofs.Moving.{least-from}
use Rattle.cut_op.proofs.PlannedMovies.{held_behind, held_front}
use Rattle.cut_op.proofs.ToldLimits.{CanBeTold, tell}
use Rattle.cut_op.proofs.ToldParts.{each_late}
use Rattle.cut_op.proofs.TrackLimits.{is_too_long, starts_too_late}
use Rattle.cut_op.proofs.Units.{le-times}

pos_same : (a b : ℕ) → pos a ≡ pos b → a ≡ b
pos_same a b e = omega (arith, ints, e)

-- ---- limits that a part of a track doesn't pass

all_part : {A : Type 0} (P : A → Type 0) (n m : ℕ) (xs : List A) → AllByRecursion P xs → AllByRecursion P (take n (drop m xs))
all_part P n zero xs all = front n xs all
  where
    front : (n : ℕ) (xs : List _) → AllByRecursion P xs → AllByRecursion P (take n xs)
    front zero xs all = tt
    front (suc n) [] all = tt
    front (suc n) (x ∷ xs) all = (all.0, front n xs all.1)
all_part P n (suc m) [] all = none n
  where
    none : (n : ℕ) → AllByRecursion P (take n [])
    none zero = tt
    none (suc n) = tt
all_part P n (suc m) (x ∷ xs) all = all_part P n m xs all.1

short_one : (z : ℤ) → FitsUnsigned w32 z → is_short z ≡ true
short_one z fits = ap not (le-ltb (2 ^ 32 - 1) (max 0 (unsigned_abs z)) (small z fits))
  where
    small : (z : ℤ) → FitsUnsigned w32 z → max 0 (unsigned_abs z) ≤ 2 ^ 32 - 1
    small z fits = omega (arith, ints, fits)

short_all : (xs : List ℤ) → AllByRecursion (FitsUnsigned w32) xs → list_all is_short xs ≡ true
short_all [] fit = refl
short_all (x ∷ xs) fit = rw (short_one x fit.0, short_all xs fit.1) refl

sizes_short : (sizes : List ℤ) (from to : ℕ) → All (FitsUnsigned w32) sizes → is_long (slice_range sizes from to) ≡ false
sizes_short sizes from to fit = long_is (slice_range sizes from to) ∙ ap not (short_all (slice_range sizes from to) (all_part (FitsUnsigned w32) (to - from) from sizes (by_recursion (FitsUnsigned w32) sizes fit)))

few_pieces : (from to : ℕ) (segments : List Segment) → length (pieces from to segments) ≤ length segments
few_pieces from to [] = omega arith
few_pieces from to (segment ∷ segments) = by (ltb (min from (duration segment)) (min to (duration segment))) (few_pieces (from - duration segment) (to - duration segment) segments)
  where
    by : (b : Bool) → length (pieces (from - duration segment) (to - duration segment) segments) ≤ length segments
        → length (cond b (part segment (min from (duration segment)) (min to (duration segment)) ∷ pieces (from - duration segment) (to - duration segment) segments) (pieces (from - duration segment) (to - duration segment) segments)) ≤ suc (length segments)
    by true le = omega (arith, le)
    by false le = omega (arith, le)

as_told : (unit media movie back : ℕ) (ps made : List Segment) → TellsBack unit media movie back ps made → length made ≡ length ps
as_told unit media movie back [] [] told = refl
as_told unit media movie back [] (one ∷ made) told = absurd told
as_told unit media movie back (piece ∷ ps) [] told = absurd told
as_told unit media movie back (piece ∷ ps) (one ∷ made) told = ap (λ (n : ℕ). suc n) (as_told unit media movie back ps made told.1)

one_at_least : (segments : List Segment) → length (or_empty segments) ≤ max 1 (length segments)
one_at_least [] = omega arith
one_at_least (segment ∷ segments) = omega arith

few_shown : (movie d : ℕ) (track : TrackRecord) → AreEdits track.edits → length (explicit movie track d) ≤ most_segments
few_shown movie d track edits = by track.edits refl edits
  where
    one : (n : ℕ) → length (whole_media n) ≤ most_segments
    one n = which (ltb 0 n)
      where
        which : (b : Bool) → length (cond b (Media 0 n ∷ []) []) ≤ most_segments
        which true = omega arith
        which false = omega arith

    by : (shown : Option (List Segment)) → track.edits ≡ shown → AreEdits shown → length (explicit movie track d) ≤ most_segments
    by None is fit = subst (λ (o : Option (List Segment)). length (segments_of (movie * d) (track.scale * d) (extent track.samples) o) ≤ most_segments) (sym is) (one (extent track.samples * (movie * d)))
    by (Some shown) is fit =
        subst (λ (o : Option (List Segment)). length (segments_of (movie * d) (track.scale * d) (extent track.samples) o) ≤ most_segments) (sym is)
        (subst (λ (n : ℕ). n ≤ most_segments) (sym (length-map shown (in_unit (movie * d) (track.scale * d)))) fit.few)

-- ---- one track

module _ (files : List (List ℕ)) (old new : ℕ) (from to : Frac) (track : PlacedTrack) (plan : TrackPlan) (passed : Passed) (can : CanBeWritten track) (makes : MakesPlan files old new from to track plan passed) (edits : List Segment)
    (has : HasEdits files old new from to track plan edits) (divides : makes.shape.movie_scale ∣ new) where
  abbrev pub cut : PlacedTrack
  cut = placed_cut plan.kept.from plan.kept.to plan.scale plan.factor plan.ahead edits track

  few_edits : length edits ≤ most_segments
  few_edits =
      let told = as_told (unit track.scale old from to) plan.scale new plan.back (track_pieces old from to (track_for files track)) has.made has.told in
      let pieces_few = few_pieces (unsigned_abs from.n * old * (to.d * track.scale)) (unsigned_abs to.n * old * (from.d * track.scale)) (explicit old (track_for files track) (from.d * to.d)) in
      let shown_few = few_shown old (from.d * to.d) (track_for files track) can.edits in
      let most = one_at_least has.made in
      let long : length edits ≡ length (or_empty has.made) = ap length has.are in
      omega (arith, long, most, told, pieces_few, shown_few)

  pub has_passed : HasPassed cut passed
  has_passed = record {
    durations = sym (ap (λ (p : Passed). p.durations) makes.passed_is);
    offsets = sym (ap (λ (p : Passed). p.offsets) makes.passed_is);
    total = is_too_long files old new from to track makes.shape plan makes.is edits has divides ∙ sym (ap (λ (p : Passed). p.total) makes.passed_is);
    starts = starts_too_late files old new from to track makes.shape plan makes.is edits has ∙ sym (ap (λ (p : Passed). p.starts) makes.passed_is);
    sizes = sizes_short track.sizes plan.kept.from plan.kept.to can.sizes;
    entries = le-ltb most_entries (length track.entries) can.entries;
    segments = le-ltb most_segments (length edits) few_edits;
  }

  pub held : (sizes : List ℕ) → HoldTrack sizes track → HoldTrack sizes cut
  held sizes hold =
      held_front sizes (sum (take plan.kept.to (naturals track.counts)) - sum (take plan.kept.from (naturals track.counts)))
      (drop (sum (take plan.kept.from (naturals track.counts))) track.pieces)
      (held_behind sizes (sum (take plan.kept.from (naturals track.counts))) track.pieces hold)

  pub fewer : length cut.deltas ≤ length track.deltas
  fewer =
      let long = length-map (slice_range track.deltas plan.kept.from plan.kept.to) (λ delta. delta *ℤ pos plan.factor) in
      let part = length-slice track.deltas plan.kept.from plan.kept.to makes.is.inside in
      let inside = makes.is.inside in
      omega (arith, long, part, inside)

-- ---- edits for a plan that has none yet

module _ (law : WholenessIsDivision) (files : List (List ℕ)) (old new : ℕ) (from to : Frac) (track : PlacedTrack) (plan : TrackPlan) (shape : ClipShape) (is : IsTrackPlan files old from to track shape plan) (some_new : 0 < new) (divides : shape.movie_scale ∣ new)
    (whole : AllByRecursion (IsWhole new) (as_times (unit track.scale old from to) (map duration (track_pieces old from to (track_for files track))))) where
  pub can_be_told : CanBeTold (unit track.scale old from to) plan.scale new plan.back (track_pieces old from to (track_for files track))
  can_be_told =
      let parts = unit track.scale old from to in
      let ps = track_pieces old from to (track_for files track) in
      let some : 0 < plan.scale = subst (λ (x : ℕ). 0 < x) (sym is.scale) is.is_shape.media_scale.0.some in
      let lowest : least (starts ps) * plan.scale ≡ shape.least * parts = ap (λ (x : ℕ). least (starts ps) * x) is.scale ∙ pos_same _ _ is.is_shape.least.crosswise in
      let less : plan.back ≤ shape.least = below _ is.back in
      tell law parts plan.scale new plan.back is.is_shape.total.positive some some_new ps
      (subst (λ (k : ℕ). AllByRecursion (IsWhole k) (as_times parts (starts ps))) (sym is.scale) is.is_shape.media_scale.0.serves.whole)
      (each_late plan.back parts plan.scale (least (starts ps)) (starts ps) (subst (λ (x : ℕ). plan.back * parts ≤ x) (sym lowest) (le-times plan.back shape.least parts less)) (least-from (starts ps))) whole
    where
      below : (a : ℕ) → plan.back ≡ min a shape.least → plan.back ≤ shape.least
      below a e = omega (arith, e)

-- The track that a plan makes stands for the cut of the one that it was made for.
use Rattle.std.proofs.Common.{◌≡◌, ℕ, ℤ, zero, suc, pos, ◌+◌, ◌-◌, ◌*◌, ◌<◌, ◌≤◌, ◌-ℤ◌, min, Bool, true, false, cond, eqb, List, [], ◌∷◌, length, map, take, drop, Option, Some, None, refl, sym, ap, subst, ◌∙◌, arith, inl, inr}
use Rattle.std.specs.Prelude.{option_map, slice_range, sum}
use Rattle.std.specs.List.{range_with_len}
use Rattle.std.proofs.lemmas.Bool.{cases_eq, eq-eqb, eqb-true}
use Rattle.std.proofs.lemmas.Int.{ints}
use Rattle.mp_frac.specs.declared.time.Frac.{Frac}
use Rattle.mp_timeline.specs.declared.segment.Segment.{Segment}
use Rattle.mp_timeline.specs.Movie.{SampleRecord, TrackRecord}
use Rattle.mp_movie.specs.Placed.{PlacedTrack, naturals}
use Rattle.mp_movie.specs.StandsFor.{sample_at, samples_of, track_for}
use Rattle.mp_movie.specs.WholeParts.{AreColumns}
use Rattle.mp_shown.specs.Law.{finer_sample}
use Rattle.mp_clip.specs.declared.shape.ClipShape.{ClipShape}
use Rattle.mp_clip.specs.Clipped.{TellsBack, starts, unit}
use Rattle.mp_clip.specs.Shape.{least}
use Rattle.track_ops.specs.Delay.{told}
use Rattle.track_ops.specs.Ticks.{sample_in_scale}
use Rattle.track_ops.specs.Told.{or_empty, told_track}
use Rattle.cut_op.specs.declared.plan.TrackPlan.{TrackPlan}
use Rattle.cut_op.specs.Needed.{kept_samples}
use Rattle.cut_op.specs.Placed.{first_ticks, placed_cut}
use Rattle.cut_op.specs.Planned.{HasEdits, IsTrackPlan}
use Rattle.cut_op.specs.Track.{cut_track, first_decode, late_by, moved_sample, track_pieces, track_samples}
use Rattle.mp_edits.specs.Segments.{shifted}
use Rattle.cut_op.proofs.KeptSamples.{kept_are_samples, recast, slice-map, slice-range}
use Rattle.cut_op.proofs.ToldCuts.{samples_told, segments_told}
use Rattle.cut_op.proofs.Units.{times_some}

-- the first of finer samples
pub first-finer : (w : ℕ) (samples : List SampleRecord) → first_decode (map (finer_sample w) samples) ≡ first_decode samples * w
first-finer w [] = omega arith
first-finer w (sample ∷ samples) = refl

-- the first of a part of a track
pub first_of_part : (files : List (List ℕ)) (track : PlacedTrack) (from to : ℕ) → from ≤ to → to ≤ length track.deltas → first_decode (slice_range (samples_of files track) from to) ≡ first_ticks from to track
unfolding samples_of sample_at
first_of_part files track from to order inside =
    ap first_decode (slice-map (sample_at files track) (range_with_len 0 (length track.deltas)) from to ∙ ap (map (sample_at files track)) (slice-range from to (length track.deltas) inside))
    ∙ elim (cases_eq from to) [
      | inl same ↦
          let none : to - from ≡ 0 = omega (arith, same) in
          ap (λ (n : ℕ). first_decode (map (sample_at files track) (range_with_len from n))) none ∙ rw (eq-eqb from to same) refl
      | inr other ↦
          let some : to - from ≡ suc (to - from - 1) = omega (arith, other, order) in
          ap (λ (n : ℕ). first_decode (map (sample_at files track) (range_with_len from n))) some ∙ (head from (to - from - 1) ∙ sym (ap (λ (b : Bool). cond b 0 (sum (take from (naturals track.deltas)))) (differ from to other)))
    ]
  where
    head : (a n : ℕ) → first_decode (map (sample_at files track) (range_with_len a (suc n))) ≡ sum (take a (naturals track.deltas))
    head a n = refl

    differ : (a b : ℕ) → (a ≡ b → ⊥) → eqb a b ≡ false
    differ a b other = by (eqb a b) refl
      where
        by : (test : Bool) → eqb a b ≡ test → eqb a b ≡ false
        by true is = absurd (other (eqb-true a b is))
        by false is = is

-- nothing is moved by anything
recast_alike : (files : List (List ℕ)) (track : PlacedTrack) (from to factor ahead : ℕ) → from ≤ to
    → map (recast (first_ticks from to track) factor ahead) (slice_range (samples_of files track) from to) ≡ map (recast (sum (take from (naturals track.deltas))) factor ahead) (slice_range (samples_of files track) from to)
recast_alike files track from to factor ahead order = elim (cases_eq from to) [
  | inl same ↦
      let none : to - from ≡ 0 = omega (arith, same) in
      let empty : slice_range (samples_of files track) from to ≡ [] = ap (λ (n : ℕ). take n (drop from (samples_of files track))) none in
      ap (map (recast (first_ticks from to track) factor ahead)) empty ∙ sym (ap (map (recast (sum (take from (naturals track.deltas))) factor ahead)) empty)
  | inr other ↦ ap (λ (b : Bool). map (recast (cond b 0 (sum (take from (naturals track.deltas)))) factor ahead) (slice_range (samples_of files track) from to)) (differ from to other)
]
  where
    differ : (a b : ℕ) → (a ≡ b → ⊥) → eqb a b ≡ false
    differ a b other = by (eqb a b) refl
      where
        by : (test : Bool) → eqb a b ≡ test → eqb a b ≡ false
        by true is = absurd (other (eqb-true a b is))
        by false is = is

pos_same : (a b : ℕ) → pos a ≡ pos b → a ≡ b
pos_same a b e = omega (arith, ints, e)

module _ (files : List (List ℕ)) (movie new_movie : ℕ) (from to : Frac) (track : PlacedTrack) (shape : ClipShape) (plan : TrackPlan)
    (some_movie : 0 < movie) (some_from : 0 < from.d) (some_to : 0 < to.d) (some : 0 < track.scale) (columns : AreColumns track)
    (planned : IsTrackPlan files movie from to track shape plan) (edits : List Segment) where
  abbrev pub w : ℕ
  w = movie * (from.d * to.d)

  abbrev pub segments : List Segment
  segments = track_pieces movie from to (track_for files track)

  abbrev pub part : List SampleRecord
  part = slice_range (samples_of files track) plan.kept.from plan.kept.to

  abbrev pub first : ℕ
  first = first_ticks plan.kept.from plan.kept.to track

  pub some_w : 0 < w
  some_w = times_some movie (from.d * to.d) some_movie (times_some from.d to.d some_from some_to)

  pub unit_is : w * track.scale ≡ unit track.scale movie from to
  unit_is = turn movie (from.d * to.d) track.scale
    where
      turn : (m p s : ℕ) → m * p * s ≡ m * s * p
      turn m p s = omega arith

  least_is : least (starts segments) * (track.scale * plan.factor) ≡ shape.least * (w * track.scale)
  least_is =
      ap (λ (x : ℕ). least (starts segments) * x) (sym planned.factor ∙ planned.scale)
      ∙ (pos_same _ _ planned.is_shape.least.crosswise ∙ ap (λ (x : ℕ). shape.least * x) (sym unit_is))

  pub decode_is : first_decode part ≡ first
  decode_is = first_of_part files track plan.kept.from plan.kept.to planned.order planned.inside

  first_is : first_decode (map (finer_sample w) part) ≡ first * w
  first_is = first-finer w part ∙ ap (λ (x : ℕ). x * w) decode_is

  back_is : min (first * plan.factor) shape.least ≡ plan.back
  back_is = sym planned.back

  ahead_is : first * plan.factor - min (first * plan.factor) shape.least ≡ plan.ahead
  ahead_is = ap (λ (x : ℕ). first * plan.factor - x) back_is ∙ sym planned.ahead

  samples_are : map (sample_in_scale (unit track.scale movie from to) plan.scale) (map (moved_sample (first * w) (first * w - least (starts segments))) (map (finer_sample w) part))
      ≡ samples_of files (placed_cut plan.kept.from plan.kept.to plan.scale plan.factor plan.ahead edits track)
  samples_are =
      let moved = map (moved_sample (first * w) (first * w - least (starts segments))) (map (finer_sample w) part) in
      ap (λ (u : ℕ). map (sample_in_scale u plan.scale) moved) (sym unit_is)
      ∙ (ap (λ (n : ℕ). map (sample_in_scale (w * track.scale) n) moved) planned.factor
      ∙ (samples_told track.scale w plan.factor first (least (starts segments)) shape.least some some_w least_is part
      ∙ (ap (λ (ahead : ℕ). map (recast first plan.factor ahead) part) ahead_is
      ∙ (recast_alike files track plan.kept.from plan.kept.to plan.factor plan.ahead planned.order
      ∙ sym (kept_are_samples files track plan.kept.from plan.kept.to plan.scale plan.factor plan.ahead edits columns planned.order planned.inside)))))

  edits_are : HasEdits files movie new_movie from to track plan edits
      → map (told (unit track.scale movie from to) plan.scale new_movie) (or_empty (map (shifted (pos (first * w - least (starts segments)) -ℤ pos (first * w))) segments)) ≡ edits
  edits_are has =
      let moved = or_empty (map (shifted (pos (first * w - least (starts segments)) -ℤ pos (first * w))) segments) in
      let told_back : TellsBack (w * track.scale) (track.scale * plan.factor) new_movie (min (first * plan.factor) shape.least) segments has.made =
      subst (λ (u : ℕ). TellsBack u (track.scale * plan.factor) new_movie (min (first * plan.factor) shape.least) segments has.made) (sym unit_is)
      (subst (λ (n : ℕ). TellsBack (unit track.scale movie from to) n new_movie (min (first * plan.factor) shape.least) segments has.made) planned.factor
      (subst (λ (back : ℕ). TellsBack (unit track.scale movie from to) plan.scale new_movie back segments has.made) planned.back has.told)) in
      ap (λ (u : ℕ). map (told u plan.scale new_movie) moved) (sym unit_is)
      ∙ (ap (λ (n : ℕ). map (told (w * track.scale) n new_movie) moved) planned.factor
      ∙ (segments_told track.scale w plan.factor first (least (starts segments)) shape.least some some_w least_is new_movie segments has.made refl told_back ∙ sym has.are))

  -- what is kept, by the numbers of the plan
  pub kept_is : cut_track movie from to (track_for files track)
      ≡ record (track_for files track) {
        scale = unit track.scale movie from to;
        samples = map (moved_sample (first * w) (first * w - least (starts segments))) (map (finer_sample w) part);
        edits = Some (or_empty (map (shifted (pos (first * w - least (starts segments)) -ℤ pos (first * w))) segments));
      }
  kept_is = by (kept_samples segments (track_samples movie from to (track_for files track))) planned.kept (first_decode (map (finer_sample w) part)) refl first_is
    where
      by : (kept : List SampleRecord) → kept ≡ map (finer_sample w) part → (decode : ℕ) → decode ≡ first_decode (map (finer_sample w) part) → first_decode (map (finer_sample w) part) ≡ first * w
          → record (track_for files track) {
            scale = unit track.scale movie from to;
            samples = map (moved_sample (first_decode kept) (first_decode kept - least (starts segments))) kept;
            edits = Some (or_empty (map (shifted (pos (first_decode kept - least (starts segments)) -ℤ pos (first_decode kept))) segments));
          }
          ≡ record (track_for files track) {
            scale = unit track.scale movie from to;
            samples = map (moved_sample (first * w) (first * w - least (starts segments))) (map (finer_sample w) part);
            edits = Some (or_empty (map (shifted (pos (first * w - least (starts segments)) -ℤ pos (first * w))) segments));
          }
      by kept kept_path decode decode_path first_path =
          let number : first_decode kept ≡ first * w = ap first_decode kept_path ∙ first_path in
          λ i. record (track_for files track) {
            scale = unit track.scale movie from to;
            samples = map (moved_sample (number i) (number i - least (starts segments))) (kept_path i);
            edits = Some (or_empty (map (shifted (pos (number i - least (starts segments)) -ℤ pos (number i))) segments));
          }

  -- it is what the plan makes
  pub told_is_placed : HasEdits files movie new_movie from to track plan edits
      → told_track plan.scale new_movie (cut_track movie from to (track_for files track)) ≡ track_for files (placed_cut plan.kept.from plan.kept.to plan.scale plan.factor plan.ahead edits track)
  told_is_placed has =
      let samples = samples_are in
      let segments_path = edits_are has in
      ap (told_track plan.scale new_movie) kept_is
      ∙ (λ i. record { number = track.number; head = track.head; scale = plan.scale; entries = track.entries; samples = samples i; edits = Some (segments_path i) })

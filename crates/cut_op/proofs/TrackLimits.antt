-- Which limits the track of a plan passes, by the numbers that are known before it has edits.
use Rattle.std.proofs.Common.{◌≡◌, ℕ, pos, ◌+◌, ◌*◌, ◌/◌, ◌^◌, ◌<◌, ◌≤◌, Bool, true, false, leb, ◌||◌, List, [], ◌∷◌, refl, sym, ap, subst, ◌∙◌, arith}
use Rattle.std.specs.Int.{◌∣◌}
use Rattle.std.specs.List.{list_any}
use Rattle.std.proofs.Math.Nat.{eq_of_mul-eq-mul_right, mul-div_cancel'}
use Rattle.std.proofs.lemmas.Int.{ints}
use Rattle.mp_ports.specs.declared.code.Code.TheVariants.{DurationLimit, StartLimit}
use Rattle.mp_frac.specs.declared.time.Frac.{Frac}
use Rattle.mp_timeline.specs.declared.segment.Segment.{Segment}
use Rattle.mp_edits.specs.Segments.{starts_late, total}
use Rattle.mp_movie.specs.PartsFit.{passes}
use Rattle.mp_movie.specs.Placed.{PlacedTrack}
use Rattle.mp_movie.specs.StandsFor.{track_for}
use Rattle.mp_clip.specs.declared.shape.ClipShape.{ClipShape}
use Rattle.mp_movie.specs.Durations.{greatest}
use Rattle.mp_clip.specs.Clipped.{starts, unit}
use Rattle.track_ops.specs.Told.{or_empty}
use Rattle.cut_op.specs.declared.plan.TrackPlan.{TrackPlan}
use Rattle.cut_op.specs.Placed.{placed_cut}
use Rattle.cut_op.specs.Planned.{HasEdits, IsTrackPlan}
use Rattle.cut_op.specs.Track.{track_pieces}
use Rattle.cut_op.proofs.ToldLimits.{tells_late, tells_total}
use Rattle.cut_op.proofs.Totals.{total-empty}

pos_same : (a b : ℕ) → pos a ≡ pos b → a ≡ b
pos_same a b e = omega (arith, ints, e)

late-empty : (segments : List Segment) → list_any starts_late (or_empty segments) ≡ list_any starts_late segments
late-empty [] = refl
late-empty (segment ∷ segments) = refl

module _ (files : List (List ℕ)) (movie new_movie : ℕ) (from to : Frac) (track : PlacedTrack) (shape : ClipShape) (plan : TrackPlan)
    (planned : IsTrackPlan files movie from to track shape plan) (edits : List Segment) (has : HasEdits files movie new_movie from to track plan edits) where
  abbrev pub parts : ℕ
  parts = unit track.scale movie from to

  abbrev pub pieces : List Segment
  pieces = track_pieces movie from to (track_for files track)

  pub is_too_long : shape.movie_scale ∣ new_movie → passes DurationLimit (placed_cut plan.kept.from plan.kept.to plan.scale plan.factor plan.ahead edits track) ≡ leb (2 ^ 62) (shape.total * (new_movie / shape.movie_scale))
  is_too_long divides =
      let k : ℕ = new_movie / shape.movie_scale in
      let some = planned.is_shape.total.positive in
      let made = tells_total parts plan.scale new_movie plan.back pieces has.made has.told in
      let scaled = pos_same (total pieces * shape.movie_scale) (shape.total * parts) planned.is_shape.total.crosswise in
      let whole : shape.movie_scale * k ≡ new_movie = mul-div_cancel' shape.movie_scale divides in
      let product : total has.made * parts ≡ shape.total * k * parts =
      made ∙ (ap (λ (x : ℕ). total pieces * x) (sym whole) ∙ (first (total pieces) shape.movie_scale k ∙ (ap (λ (x : ℕ). x * k) scaled ∙ turn shape.total parts k))) in
      let lasts : total edits ≡ shape.total * k = ap total has.are ∙ (total-empty has.made ∙ eq_of_mul-eq-mul_right parts some (total has.made) (shape.total * k) product) in
      ap (leb (2 ^ 62)) lasts
    where
      first : (x y z : ℕ) → x * (y * z) ≡ x * y * z
      first x y z = omega arith

      turn : (x y z : ℕ) → x * y * z ≡ x * z * y
      turn x y z = omega arith

  pub starts_too_late : passes StartLimit (placed_cut plan.kept.from plan.kept.to plan.scale plan.factor plan.ahead edits track) ≡ leb (2 ^ 62 + plan.back) shape.greatest
  starts_too_late =
      let some = planned.is_shape.greatest.positive in
      let scaled = pos_same _ _ planned.is_shape.greatest.crosswise in
      ap (list_any starts_late) has.are
      ∙ (late-empty has.made
      ∙ tells_late parts plan.scale new_movie plan.back pieces has.made shape.greatest some (ap (λ (n : ℕ). greatest (starts pieces) * n) planned.scale ∙ scaled) has.told)

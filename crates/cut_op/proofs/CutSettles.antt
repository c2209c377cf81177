-- The scale of a plan is the one that the cut's times need, and the cut told in it stands for what the plan makes.
use Rattle.std.proofs.Common.{◌≡◌, ℕ, ℤ, pos, ◌+◌, ◌-◌, ◌*◌, ◌<◌, ◌≤◌, ◌-ℤ◌, List, [], ◌∷◌, ◌++◌, map, Option, Some, None, refl, sym, ap, subst, ◌∙◌, arith}
use Rattle.std.specs.Prelude.{option_map, slice_range}
use Rattle.std.specs.List.{AllByRecursion, flat_map}
use Rattle.mp_frac.specs.declared.time.Frac.{Frac}
use Rattle.mp_timeline.specs.declared.segment.Segment.{Segment}
use Rattle.mp_timeline.specs.Movie.{SampleRecord, TrackRecord}
use Rattle.mp_edits.specs.Segments.{shifted}
use Rattle.mp_movie.specs.Placed.{PlacedTrack}
use Rattle.mp_movie.specs.Settling.{Settles}
use Rattle.mp_movie.specs.StandsFor.{samples_of, track_for}
use Rattle.mp_movie.specs.WholeParts.{AreColumns}
use Rattle.mp_shown.specs.Law.{finer_sample}
use Rattle.mp_clip.specs.declared.shape.ClipShape.{ClipShape}
use Rattle.mp_clip.specs.Clipped.{as_times, starts, unit}
use Rattle.mp_clip.specs.Shape.{least}
use Rattle.track_ops.specs.Law.{LeastScalesAreFound}
use Rattle.track_ops.specs.Scales.{settled}
use Rattle.track_ops.specs.Ticks.{sample_times, track_times}
use Rattle.track_ops.specs.Told.{or_empty, told_track}
use Rattle.cut_op.specs.declared.plan.TrackPlan.{TrackPlan}
use Rattle.cut_op.specs.Cut.{cut_settled}
use Rattle.cut_op.specs.Placed.{first_ticks, placed_cut}
use Rattle.cut_op.specs.Planned.{HasEdits, IsTrackPlan}
use Rattle.cut_op.specs.Track.{cut_track, moved_sample}
use Rattle.cut_op.proofs.CutScales.{settles_before, times}
use Rattle.cut_op.proofs.PlannedTracks.{decode_is, kept_is, part, segments, some_w, told_is_placed, unit_is, w}

-- times of one unit
pub ticks_have : (unit : ℕ) (numbers : List ℕ) → 0 < unit → AllByRecursion (λ time. 0 < time.d) (as_times unit numbers)
ticks_have unit [] some = tt
ticks_have unit (n ∷ numbers) some = (some, ticks_have unit numbers some)

pub samples_have : (unit : ℕ) (samples : List SampleRecord) (others : List Frac) → 0 < unit → AllByRecursion (λ time. 0 < time.d) others → AllByRecursion (λ time. 0 < time.d) (flat_map (sample_times unit) samples ++ others)
samples_have unit [] others some rest = rest
samples_have unit (sample ∷ samples) others some rest = (some, (some, (some, samples_have unit samples others some rest)))

module _ (files : List (List ℕ)) (movie new_movie : ℕ) (from to : Frac) (track : PlacedTrack) (shape : ClipShape) (plan : TrackPlan)
    (some_movie : 0 < movie) (some_from : 0 < from.d) (some_to : 0 < to.d) (some : 0 < track.scale) (columns : AreColumns track)
    (planned : IsTrackPlan files movie from to track shape plan) (edits : List Segment) where
  abbrev pub tick : ℕ
  tick = movie * (from.d * to.d)

  abbrev pub pieces : List Segment
  pieces = segments files movie new_movie from to track shape plan some_movie some_from some_to some columns planned edits

  abbrev pub kept : List SampleRecord
  kept = part files movie new_movie from to track shape plan some_movie some_from some_to some columns planned edits

  abbrev pub first : ℕ
  first = first_ticks plan.kept.from plan.kept.to track

  one_unit : tick * track.scale ≡ unit track.scale movie from to
  one_unit = unit_is files movie new_movie from to track shape plan some_movie some_from some_to some columns planned edits

  some_tick : 0 < tick
  some_tick = some_w files movie new_movie from to track shape plan some_movie some_from some_to some columns planned edits

  -- the times of the cut, whose first kept sample was decoded then
  times_at : (unit decode : ℕ) → List Frac
  times_at unit decode =
      flat_map (sample_times unit) (map (moved_sample (decode * tick) (decode * tick - least (starts pieces))) (map (finer_sample tick) kept))
      ++ as_times unit (starts (or_empty (map (shifted (pos (decode * tick - least (starts pieces)) -ℤ pos (decode * tick))) pieces)))

  times_are : track_times (cut_track movie from to (track_for files track)) ≡ times_at (unit track.scale movie from to) first
  unfolding times_at
  times_are = ap track_times (kept_is files movie new_movie from to track shape plan some_movie some_from some_to some columns planned edits)

  settles : Settles track.scale (track_times (cut_track movie from to (track_for files track))) (Some plan.scale)
  unfolding times_at
  settles =
      let before : Settles track.scale (as_times (unit track.scale movie from to) (starts pieces)) (Some plan.scale) =
      subst (λ (scale : ℕ). Settles track.scale (as_times (unit track.scale movie from to) (starts pieces)) (Some scale)) (sym planned.scale) planned.is_shape.media_scale in
      let in_ticks : Settles track.scale (as_times (tick * track.scale) (starts pieces)) (Some plan.scale) =
      subst (λ (u : ℕ). Settles track.scale (as_times u (starts pieces)) (Some plan.scale)) (sym one_unit) before in
      let cut = settles_before track.scale tick some some_tick kept pieces (Some plan.scale) in_ticks in
      let decode = decode_is files movie new_movie from to track shape plan some_movie some_from some_to some columns planned edits in
      subst (λ (list : List Frac). Settles track.scale list (Some plan.scale)) (sym times_are)
      (subst (λ (u : ℕ). Settles track.scale (times_at u first) (Some plan.scale)) one_unit
      (subst (λ (n : ℕ). Settles track.scale (times_at (tick * track.scale) n) (Some plan.scale)) decode cut))

  pub scale_is : LeastScalesAreFound → settled track.scale (track_times (cut_track movie from to (track_for files track))) ≡ Some plan.scale
  unfolding times_at
  scale_is found =
      let some_unit : 0 < unit track.scale movie from to = subst (λ (u : ℕ). 0 < u) one_unit (some_product tick track.scale some_tick some) in
      found track.scale (track_times (cut_track movie from to (track_for files track))) (Some plan.scale) some
      (subst (AllByRecursion (λ time. 0 < time.d)) (sym times_are) (samples_have (unit track.scale movie from to) (map (moved_sample (first * tick) (first * tick - least (starts pieces))) (map (finer_sample tick) kept)) _ some_unit
      (ticks_have (unit track.scale movie from to) (starts (or_empty (map (shifted (pos (first * tick - least (starts pieces)) -ℤ pos (first * tick))) pieces))) some_unit)))
      settles
    where
      some_product : (a b : ℕ) → 0 < a → 0 < b → 0 < a * b
      some_product a b p q = grind arith

  -- the cut is what the plan makes
  pub cut_is_placed : LeastScalesAreFound → HasEdits files movie new_movie from to track plan edits
      → cut_settled movie new_movie from to (track_for files track) ≡ Some (track_for files (placed_cut plan.kept.from plan.kept.to plan.scale plan.factor plan.ahead edits track))
  cut_is_placed found has =
      ap (option_map (λ scale. told_track scale new_movie (cut_track movie from to (track_for files track)))) (scale_is found)
      ∙ ap Some (told_is_placed files movie new_movie from to track shape plan some_movie some_from some_to some columns planned edits has)

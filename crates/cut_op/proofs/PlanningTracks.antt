-- What is found of a track makes a plan of it.
use Rattle.std.proofs.Common.{◌≡◌, ℕ, ◌-◌, ◌*◌, ◌/◌, List, min, sym, ap, ◌∙◌}
use Rattle.std.proofs.Math.Nat.{mul-div_cancel'}
use Rattle.mp_frac.specs.declared.time.Frac.{Frac}
use Rattle.mp_movie.specs.Placed.{PlacedTrack}
use Rattle.mp_movie.specs.StandsFor.{track_for}
use Rattle.mp_clip.specs.declared.shape.ClipShape.{ClipShape}
use Rattle.mp_clip.specs.Clipped.{unit}
use Rattle.mp_clip.specs.Shape.{IsShape}
use Rattle.cut_op.specs.declared.plan.TrackPlan.{TrackPlan}
use Rattle.cut_op.specs.Placed.{first_ticks}
use Rattle.cut_op.specs.Planned.{IsNeededRange, IsTrackPlan}
use Rattle.cut_op.specs.Track.{track_pieces}

pub plans : (files : List (List ℕ)) (movie : ℕ) (from to : Frac) (track : PlacedTrack) (shape : ClipShape) (plan : TrackPlan)
    → IsShape track.scale movie (unit track.scale movie from to) (track_pieces movie from to (track_for files track)) shape
    → IsNeededRange files movie from to track plan.kept.from plan.kept.to
    → plan.scale ≡ shape.media_scale → plan.factor ≡ shape.media_scale / track.scale
    → plan.back ≡ min (first_ticks plan.kept.from plan.kept.to track * plan.factor) shape.least → plan.ahead ≡ first_ticks plan.kept.from plan.kept.to track * plan.factor - plan.back
    → IsTrackPlan files movie from to track shape plan
plans files movie from to track shape plan is range scale factor back ahead =
    let whole : track.scale * (shape.media_scale / track.scale) ≡ shape.media_scale = mul-div_cancel' track.scale is.media_scale.0.serves.multiple in
    record {
      order = range.order;
      inside = range.inside;
      kept = range.kept;
      is_shape = is;
      scale = scale;
      factor = scale ∙ (sym whole ∙ ap (λ (x : ℕ). track.scale * x) (sym factor));
      back = back;
      ahead = ahead;
    }

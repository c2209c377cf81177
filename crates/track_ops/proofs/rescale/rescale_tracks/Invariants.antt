use Rattle.track_ops.specs.Kept.{kept_in_scale}
use Rattle.track_ops.proofs.Changing.{IsChangedSoFar}
use Rattle.track_ops.proofs.rescale.rescale_tracks.Given as goal

abbrev pub invariant-loop-track : goal.invariant-loop-track
invariant-loop-track l = IsChangedSoFar (kept_in_scale l.old l.new) l.tracks l.fn.tracks l.track-index

use Rattle.track_ops.specs.Scales.{lasting}
use Rattle.track_ops.proofs.Changing.{IsChangedSoFar}
use Rattle.track_ops.proofs.rescale.rescale.Given as goal

abbrev pub invariant-loop-segment : goal.invariant-loop-segment
invariant-loop-segment l = IsChangedSoFar (lasting l.old l.new) l.edits l.fn.edits l.segment-index

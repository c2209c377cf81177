use Rattle.track_ops.specs.Ticks.{starting}
use Rattle.track_ops.proofs.Changing.{IsChangedSoFar}
use Rattle.track_ops.proofs.ticks.rescale_starts.Given as goal

abbrev pub invariant-loop-segment : goal.invariant-loop-segment
invariant-loop-segment l = IsChangedSoFar (starting l.old l.new) l.edits l.fn.edits l.segment-index

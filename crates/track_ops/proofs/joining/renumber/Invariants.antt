use Rattle.track_ops.proofs.Renumbering.{IsNumberedSoFar}
use Rattle.track_ops.proofs.joining.renumber.Given as goal

abbrev pub invariant-loop-at : goal.invariant-loop-at
invariant-loop-at l = IsNumberedSoFar l.numbers l.tracks l.fn.tracks l.at

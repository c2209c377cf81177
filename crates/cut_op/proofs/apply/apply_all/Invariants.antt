use Rattle.std.proofs.Common.{length}
use Rattle.cut_op.proofs.LastFirst.{AreCutBehind}
use Rattle.cut_op.proofs.apply.apply_all.Given as goal

abbrev pub invariant-loop-plan : goal.invariant-loop-plan
invariant-loop-plan l = AreCutBehind l.fn.plans.items l.plans.items l.fn.tracks l.tracks

abbrev pub decreases-loop-plan : goal.decreases-loop-plan
decreases-loop-plan l = length l.plans.items

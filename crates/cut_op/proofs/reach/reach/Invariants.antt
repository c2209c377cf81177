use Rattle.cut_op.proofs.Reaching.{IsReachedSoFar}
use Rattle.cut_op.proofs.reach.reach.Given as goal

abbrev pub invariant-loop-span : goal.invariant-loop-span
invariant-loop-span l = IsReachedSoFar l.spans l.fn.spans l.span-index l.latest

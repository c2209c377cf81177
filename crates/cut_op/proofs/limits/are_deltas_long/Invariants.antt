use Rattle.std.proofs.Common.{◌≤◌, ◌-◌, ◌*ℤ◌, not, length, pos}
use Rattle.cut_op.proofs.KeptRuns.{AreAsked, is_short}
use Rattle.cut_op.proofs.limits.are_deltas_long.Given as goal

abbrev pub invariant-loop-cursor : goal.invariant-loop-cursor
invariant-loop-cursor l = record {
  asked : AreAsked (λ delta. is_short (delta *ℤ pos l.factor)) l.deltas l.from l.to l.cursor (not l.long);
  inside : l.cursor ≤ length l.deltas;
}

abbrev pub decreases-loop-cursor : goal.decreases-loop-cursor
decreases-loop-cursor l = length l.deltas - l.cursor

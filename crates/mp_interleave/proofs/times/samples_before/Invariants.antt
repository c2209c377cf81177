use Rattle.std.proofs.Common.{◌-◌, ◌≤◌}
use Rattle.mp_interleave.proofs.DecodeTimes.{AreWalked}
use Rattle.mp_interleave.proofs.times.samples_before.Given as goal

abbrev pub invariant-loop-count : goal.invariant-loop-count
invariant-loop-count l = (l.count ≤ l.most) × AreWalked l.deltas l.before l.count l.time l.cursor l.end

abbrev pub decreases-loop-count : goal.decreases-loop-count
decreases-loop-count l = l.most - l.count

use Rattle.std.proofs.Common.{◌≡◌, ◌<◌, ◌≤◌, ◌-◌, ℕ, false, length}
use Rattle.avc_order.specs.Sequence.{is_sync}
use Rattle.avc_order.proofs.sequence.end_of.Given as goal

abbrev pub invariant-loop-end : goal.invariant-loop-end
invariant-loop-end l = record {
  behind : l.first < l.end;
  within : l.end ≤ length l.syncs;
  alone : (k : ℕ) → l.first < k → k < l.end → is_sync l.syncs k ≡ false;
}

abbrev pub decreases-loop-end : goal.decreases-loop-end
decreases-loop-end l = length l.syncs - l.end

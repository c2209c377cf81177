use Rattle.std.proofs.Common.{◌≡◌, ◌⊎◌, ◌<◌, ◌≤◌, ◌+◌, ◌-◌, ℕ, get_or}
use Rattle.avc_order.specs.Sequence.{BeginsAt}
use Rattle.avc_order.specs.Delay.{IsLate}
use Rattle.avc_order.proofs.delay.delay_of.Given as goal

abbrev pub invariant-loop-i : goal.invariant-loop-i
invariant-loop-i l = record {
  begins : 0 < l.i → BeginsAt l.syncs l.first (l.i - 1);
  few : l.delay ≤ l.i;
  enough : (first k : ℕ) → BeginsAt l.syncs first k → k < l.i → k ≤ first + get_or l.ranks k 0 + l.delay;
  least : (l.delay ≡ 0) ⊎ IsLate l.ranks l.syncs l.delay;
}

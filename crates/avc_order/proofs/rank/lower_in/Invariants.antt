use Rattle.std.proofs.Common.{◌≡◌, ◌-◌, ◌<◌, ◌≤◌, ℕ, true, false, length, int_lt}
use Rattle.avc_order.specs.Ranks.{count_at}
use Rattle.avc_order.proofs.rank.lower_in.Given as goal

abbrev pub invariant-loop-low : goal.invariant-loop-low
invariant-loop-low l = record {
  order : l.low ≤ l.high;
  inside : l.high ≤ length l.sorted;
  below : (k : ℕ) → k < l.low → int_lt (count_at l.sorted k) l.count ≡ true;
  above : (k : ℕ) → l.high ≤ k → k < length l.sorted → int_lt (count_at l.sorted k) l.count ≡ false;
}

abbrev pub decreases-loop-low : goal.decreases-loop-low
decreases-loop-low l = l.high - l.low

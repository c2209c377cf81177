use Rattle.std.proofs.Common.{◌-◌, ◌*◌, ◌^◌, ◌<◌, ◌≤◌, length}
use Rattle.mp_columns.specs.Kept.{end_at, start_at}
use Rattle.mp_columns.proofs.search.find_in.Given as goal

abbrev pub invariant-loop-low : goal.invariant-loop-low
invariant-loop-low g l = record {
  order : l.low ≤ l.high;
  inside : l.high < length l.ends;
  later : l.fn.steps ≤ l.steps;
  begun : start_at l.ends l.low ≤ l.i;
  holds : l.i < end_at l.ends l.high;
  cost : 2 ^ (l.steps - l.fn.steps) ≤ 2 * (2 * length l.ends);
  width : 2 ^ (l.steps - l.fn.steps) * (l.high - l.low) ≤ 2 * length l.ends;
}

abbrev pub decreases-loop-low : goal.decreases-loop-low
decreases-loop-low g l = l.high - l.low

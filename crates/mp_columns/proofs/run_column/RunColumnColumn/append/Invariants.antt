use Rattle.std.proofs.Common.{◌≡◌, ◌-◌, ◌≤◌, ◌++◌, length, take}
use Rattle.mp_columns.proofs.run_column.RunColumnColumn.append.Given as goal

abbrev pub invariant-loop-run : goal.invariant-loop-run
invariant-loop-run l = record {
  inside : l.cursor ≤ length l.other;
  len : l.len ≡ length l.initial.self;
  items : l.self ≡ l.initial.self ++ take l.cursor l.other;
}

abbrev pub decreases-loop-run : goal.decreases-loop-run
decreases-loop-run l = length l.other - l.cursor

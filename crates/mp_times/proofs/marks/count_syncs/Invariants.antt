use Rattle.std.proofs.Common.{◌≡◌, ◌+◌, ◌-◌, ◌≤◌, length, drop}
use Rattle.mp_times.specs.Written.{sync_numbers}
use Rattle.mp_times.proofs.marks.count_syncs.Given as goal

abbrev pub invariant-loop-run : goal.invariant-loop-run
invariant-loop-run g l = record {
  inside : l.cursor ≤ length (g.C.Column.items l.column);
  few : l.syncs ≤ l.cursor;
  counted : l.syncs + length (sync_numbers (l.cursor + 1) (drop l.cursor (g.C.Column.items l.column))) ≡ length (sync_numbers 1 (g.C.Column.items l.column));
}

abbrev pub decreases-loop-run : goal.decreases-loop-run
decreases-loop-run g l = length (g.C.Column.items l.column) - l.cursor

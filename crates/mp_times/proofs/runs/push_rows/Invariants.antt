use Rattle.std.proofs.Common.{◌-◌, ◌≤◌, length, map, drop}
use Rattle.mp_boxes.specs.Field.{body_bytes}
use Rattle.mp_boxes.specs.Push.{IsLeft}
use Rattle.mp_columns.specs.Runs.{runs}
use Rattle.mp_times.specs.Written.{run_row}
use Rattle.mp_times.proofs.runs.push_rows.Given as goal

-- the rows that are left stand in the place of all
abbrev pub invariant-loop-run : goal.invariant-loop-run
invariant-loop-run g l = record {
  inside : l.cursor ≤ length (g.C.Column.items l.column);
  left : IsLeft l.fn.out l.out (map body_bytes (map run_row (runs (g.C.Column.items l.column)))) (map body_bytes (map run_row (runs (drop l.cursor (g.C.Column.items l.column)))));
}

abbrev pub decreases-loop-run : goal.decreases-loop-run
decreases-loop-run g l = length (g.C.Column.items l.column) - l.cursor

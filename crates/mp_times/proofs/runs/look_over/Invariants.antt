use Rattle.std.proofs.Common.{◌-◌, length, pos}
use Rattle.std.specs.Ordering.{int_eq}
use Rattle.mp_times.specs.Written.{is_unsigned}
use Rattle.mp_times.proofs.RunsAreWalked.{IsSurveyed}
use Rattle.mp_times.proofs.runs.look_over.Given as goal

abbrev pub invariant-loop-run : goal.invariant-loop-run
invariant-loop-run g l = IsSurveyed is_unsigned (int_eq (pos 0)) (g.C.Column.items l.column) l.cursor l.runs l.unsigned l.zero

abbrev pub decreases-loop-run : goal.decreases-loop-run
decreases-loop-run g l = length (g.C.Column.items l.column) - l.cursor

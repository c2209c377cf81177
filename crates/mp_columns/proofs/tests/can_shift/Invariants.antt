use Rattle.std.proofs.Common.{All, FitsSigned, w64, take, ◌+ℤ◌}
use Rattle.mp_columns.proofs.tests.can_shift.Given as goal

abbrev pub invariant-loop-i : goal.invariant-loop-i
invariant-loop-i g l = All (λ x. FitsSigned w64 (x +ℤ l.by)) (take l.i (g.C.Column.items l.column))

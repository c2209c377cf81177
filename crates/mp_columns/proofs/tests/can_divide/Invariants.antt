use Rattle.std.proofs.Common.{◌≡◌, All, take, pos, int_rem}
use Rattle.mp_columns.proofs.tests.can_divide.Given as goal

abbrev pub invariant-loop-i : goal.invariant-loop-i
invariant-loop-i g l = All (λ x. int_rem x (pos l.k) ≡ pos 0) (take l.i (g.C.Column.items l.column))

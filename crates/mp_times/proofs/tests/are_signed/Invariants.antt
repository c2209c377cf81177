use Rattle.std.proofs.Common.{All, take, FitsSigned}
use Rattle.std.specs.Int.{w32}
use Rattle.mp_times.proofs.tests.are_signed.Given as goal

abbrev pub invariant-loop-i : goal.invariant-loop-i
invariant-loop-i g l = All (FitsSigned w32) (take l.i (g.C.Column.items l.column))

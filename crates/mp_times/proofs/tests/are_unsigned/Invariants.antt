use Rattle.std.proofs.Common.{All, take}
use Rattle.std.specs.Int.{w32, FitsUnsigned}
use Rattle.mp_times.proofs.tests.are_unsigned.Given as goal

abbrev pub invariant-loop-i : goal.invariant-loop-i
invariant-loop-i g l = All (FitsUnsigned w32) (take l.i (g.C.Column.items l.column))

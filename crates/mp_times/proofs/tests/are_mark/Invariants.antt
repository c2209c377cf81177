use Rattle.std.proofs.Common.{All, take}
use Rattle.mp_times.specs.Written.{IsMark}
use Rattle.mp_times.proofs.tests.are_mark.Given as goal

abbrev pub invariant-loop-i : goal.invariant-loop-i
invariant-loop-i g l = All IsMark (take l.i (g.C.Column.items l.column))

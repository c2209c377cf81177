use Rattle.std.proofs.Common.{◌≡◌, take}
use Rattle.mp_times.proofs.tests.filled.Given as goal

abbrev pub invariant-loop-item : goal.invariant-loop-item
invariant-loop-item g l = g.C.Column.items l.column ≡ take l.item-index l.items

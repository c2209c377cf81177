use Rattle.std.proofs.Common.{◌≡◌, take}
use Rattle.mp_columns.specs.Numbers.{largest}
use Rattle.mp_columns.proofs.walks.largest_of.Given as goal

abbrev pub invariant-loop-item : goal.invariant-loop-item
invariant-loop-item l = l.most ≡ largest (take l.item-index l.items)

use Rattle.std.proofs.Common.{◌≡◌, ◌++◌, take, drop, map, ◌+ℤ◌}
use Rattle.mp_columns.proofs.walks.shift_each.Given as goal

abbrev pub invariant-loop-item : goal.invariant-loop-item
invariant-loop-item l = l.items ≡ map (λ x. x +ℤ l.by) (take l.item-index l.fn.items) ++ drop l.item-index l.fn.items

use Rattle.std.proofs.Common.{◌≡◌, ◌++◌, take, drop, map, pos, ◌*ℤ◌}
use Rattle.mp_columns.proofs.walks.scale_each.Given as goal

abbrev pub invariant-loop-item : goal.invariant-loop-item
invariant-loop-item l = l.items ≡ map (λ x. x *ℤ pos l.k) (take l.item-index l.fn.items) ++ drop l.item-index l.fn.items

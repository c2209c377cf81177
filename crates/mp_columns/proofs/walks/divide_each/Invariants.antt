use Rattle.std.proofs.Common.{◌≡◌, ◌++◌, take, drop, map, pos, int_div}
use Rattle.mp_columns.proofs.walks.divide_each.Given as goal

abbrev pub invariant-loop-item : goal.invariant-loop-item
invariant-loop-item l = l.items ≡ map (λ x. int_div x (pos l.k)) (take l.item-index l.fn.items) ++ drop l.item-index l.fn.items

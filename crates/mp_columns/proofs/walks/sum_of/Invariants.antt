use Rattle.std.proofs.Common.{◌≡◌, ◌*◌, ◌^◌, take, pos, neg_ℤ, ◌≤ℤ◌}
use Rattle.mp_columns.specs.Numbers.{total}
use Rattle.mp_columns.proofs.walks.sum_of.Given as goal

abbrev pub invariant-loop-item : goal.invariant-loop-item
invariant-loop-item l = (l.sum ≡ total (take l.item-index l.items)) × (neg_ℤ (pos (2 ^ 63 * l.item-index)) ≤ℤ l.sum) × (l.sum ≤ℤ pos (2 ^ 63 * l.item-index))

use Rattle.std.proofs.Common.{◌≡◌, ◌++◌, take, drop, map, ◌-◌}
use Rattle.mp_columns.proofs.walks.lower_each.Given as goal

abbrev pub invariant-loop-number : goal.invariant-loop-number
invariant-loop-number l = l.numbers ≡ map (λ number. number - l.by) (take l.number-index l.fn.numbers) ++ drop l.number-index l.fn.numbers

use Rattle.mp_columns.proofs.WholeDivisors.{IsDivided}
use Rattle.mp_columns.proofs.walks.divisor_of.Given as goal

abbrev pub invariant-loop-item : goal.invariant-loop-item
invariant-loop-item l = IsDivided l.items l.item-index l.divisor

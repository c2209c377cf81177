use Rattle.mp_columns.specs.Kept.{IsSum, all_items, start_at}
use Rattle.mp_columns.proofs.sums.sum_to.Given as goal

abbrev pub invariant-loop-before : goal.invariant-loop-before
invariant-loop-before l = IsSum (all_items l.ends l.values) (start_at l.ends l.before) l.sum

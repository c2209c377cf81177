use Rattle.mp_columns.proofs.LongestRuns.{IsAlike}
use Rattle.mp_columns.proofs.walks.run_at.Given as goal

abbrev pub invariant-loop-to : goal.invariant-loop-to
invariant-loop-to l = IsAlike l.items l.from l.to

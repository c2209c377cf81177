use Rattle.mp_columns.proofs.Searching.{highest_holds}
use Rattle.mp_columns.proofs.search.highest.Goals as goal

pub returns-clause-holds : goal.returns-clause-holds
returns-clause-holds c = rw c.min.ensures (highest_holds c.args.ends.now c.args.i c.requires)

use Rattle.std.proofs.Common.{rules}
use Rattle.mp_columns.proofs.Searching.{start_behind}
use Rattle.mp_columns.proofs.search.start_in.Goals as goal

pub returns-else-run-eq0 : goal.returns-else-run-eq0
returns-else-run-eq0 c = rw (start_behind c.args.ends.now c.args.run c.if-run-eq0.false) (search rules)

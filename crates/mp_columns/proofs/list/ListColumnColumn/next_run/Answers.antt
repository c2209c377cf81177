use Rattle.std.proofs.Common.{rules}
use Rattle.mp_columns.proofs.LongestRuns.{longest_is_first}
use Rattle.mp_columns.proofs.list.ListColumnColumn.next_run.Goals as goal

pub returns-clause-first : goal.returns-clause-first
returns-clause-first c = longest_is_first c.args.self.now c.args.cursor.now c.at.result c.run_at-run.result (search rules)

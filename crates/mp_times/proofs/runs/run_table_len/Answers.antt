use Rattle.std.proofs.Common.{map, sym, ◌∙◌}
use Rattle.std.proofs.lemmas.List.{length-map}
use Rattle.mp_columns.specs.Runs.{runs}
use Rattle.mp_times.specs.Written.{run_row, runs_body}
use Rattle.mp_times.proofs.WrittenRows.{eight_each}
use Rattle.mp_times.proofs.runs.run_table_len.Goals as goal

pub returns-clause-len : goal.returns-clause-len
unfolding runs_body
returns-clause-len c = λ kind signed xs four count. c.table_len.ensures.table kind signed (map run_row (runs xs)) four (count ∙ sym (length-map (runs xs) run_row)) (eight_each (runs xs))

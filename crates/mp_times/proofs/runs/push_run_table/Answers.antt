use Rattle.std.proofs.Common.{map, sym, ◌∙◌}
use Rattle.std.proofs.lemmas.List.{length-map}
use Rattle.mp_columns.specs.Runs.{runs}
use Rattle.mp_times.specs.Written.{run_row, runs_body}
use Rattle.mp_times.proofs.WrittenRows.{eight_each}
use Rattle.mp_times.proofs.runs.push_run_table.Goals as goal

pub returns : goal.returns
unfolding runs_body
returns g c = λ rest all p.
    let found = runs (g.C.Column.items c.args.column.now) in
    c.push_rows.ensures rest all (c.begin_table.ensures (map run_row found) (c.requires.rows ∙ sym (length-map found run_row)) (eight_each found) rest all p)

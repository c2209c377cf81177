use Rattle.std.proofs.Common.{[], sym, ◌∙◌, arith, rules}
use Rattle.std.proofs.lemmas.List.{append-nil}
use Rattle.mp_times.specs.Written.{run_table}
use Rattle.mp_times.proofs.runs.put_run_table.Goals as goal

pub returns-clause-ok : goal.returns-clause-ok
returns-clause-ok g c =
    let xs = g.C.Column.items c.args.column.now in
    let long = c.run_table_len.ensures.len c.args.kind c.args.signed xs (search rules) c.requires.rows in
    let begun = c.in_ok-reserve.ensures.one_box (run_table c.args.kind c.args.signed xs) (omega (arith, long, c.run_table_len.ensures.short c.requires.few)) in
    sym (append-nil _) ∙ (c.push_run_table.ensures [] _ begun).items

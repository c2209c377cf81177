use Rattle.std.proofs.Common.{[], sym, ◌∙◌, arith}
use Rattle.std.proofs.lemmas.List.{append-nil}
use Rattle.mp_times.specs.Written.{sync_table}
use Rattle.mp_times.proofs.LeftOut.{no_stss, one_stss, no_box, one_box}
use Rattle.mp_times.proofs.marks.put_stss.Goals as goal

pub returns-then-syncs-len-clause-ok : goal.returns-then-syncs-len-clause-ok
returns-then-syncs-len-clause-ok g c = rw (no_stss _ _ _ c.count_syncs-syncs.ensures.count c.len.ensures.count c.if-syncs-len.true, no_box) (sym (append-nil c.args.out.now.items))

pub returns-clause-ok : goal.returns-clause-ok
returns-clause-ok g c =
    let xs = g.C.Column.items c.args.column.now in
    let long = c.sync_table_len.ensures.len xs c.count_syncs-syncs.ensures.count in
    let begun = c.in_ok-reserve.ensures.one_box (sync_table xs) (omega (arith, long, c.sync_table_len.ensures.short c.count_syncs-syncs.ensures.few)) in
    rw (one_stss _ _ _ c.count_syncs-syncs.ensures.count c.len.ensures.count c.if-syncs-len.false, one_box (sync_table xs)) (sym (append-nil _) ∙ (c.push_sync_table.ensures [] _ begun).items)

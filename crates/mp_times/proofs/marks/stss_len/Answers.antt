use Rattle.std.proofs.Common.{arith, []}
use Rattle.std.proofs.lemmas.List.Sums.{sum_by-cons}
use Rattle.mp_boxes.specs.Table.{box_len}
use Rattle.mp_times.specs.Written.{sync_table}
use Rattle.mp_times.proofs.LeftOut.{no_stss, one_stss}
use Rattle.mp_times.proofs.marks.stss_len.Goals as goal

pub returns-then-syncs-len : goal.returns-then-syncs-len
returns-then-syncs-len g c = rw (no_stss _ _ _ c.count_syncs-syncs.ensures.count c.len.ensures.count c.if-syncs-len.true) (omega arith)

pub returns : goal.returns
returns g c =
    let xs = g.C.Column.items c.args.column.now in
    rw (one_stss _ _ _ c.count_syncs-syncs.ensures.count c.len.ensures.count c.if-syncs-len.false) (omega (arith, c.sync_table_len.ensures.len xs c.count_syncs-syncs.ensures.count, sum_by-cons box_len (sync_table xs) []))

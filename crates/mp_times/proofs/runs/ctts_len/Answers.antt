use Rattle.std.proofs.Common.{arith, [], refl}
use Rattle.std.specs.Prelude.{codes}
use Rattle.std.proofs.lemmas.List.Sums.{sum_by-cons}
use Rattle.mp_boxes.specs.Table.{box_len}
use Rattle.mp_times.specs.Written.{are_signed, offset_table}
use Rattle.mp_times.proofs.LeftOut.{no_ctts, one_ctts}
use Rattle.mp_times.proofs.runs.ctts_len.Goals as goal

pub returns-then-survey : goal.returns-then-survey
returns-then-survey g c = rw (no_ctts _ _ c.look_over-survey.ensures.zero c.if-survey.true) (omega arith)

pub returns : goal.returns
returns g c =
    let xs = g.C.Column.items c.args.column.now in
    let long = c.run_table_len.ensures.len (codes "ctts") (are_signed xs) xs refl c.look_over-survey.ensures.count in
    rw (one_ctts _ _ c.look_over-survey.ensures.zero c.if-survey.false) (omega (arith, long, sum_by-cons box_len (offset_table xs) []))

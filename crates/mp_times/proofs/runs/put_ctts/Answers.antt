use Rattle.std.proofs.Common.{sym}
use Rattle.std.proofs.lemmas.List.{append-nil}
use Rattle.mp_times.specs.Written.{offset_table}
use Rattle.mp_times.proofs.LeftOut.{no_ctts, one_ctts, no_box, one_box}
use Rattle.mp_times.proofs.runs.put_ctts.Goals as goal

pub returns-then-survey-clause-ok : goal.returns-then-survey-clause-ok
returns-then-survey-clause-ok g c = rw (no_ctts _ _ c.look_over-survey.ensures.zero c.if-survey.true, no_box) (sym (append-nil c.args.out.now.items))

pub returns-clause-ok : goal.returns-clause-ok
returns-clause-ok g c =
    rw (one_ctts _ _ c.look_over-survey.ensures.zero c.if-survey.false, one_box (offset_table (g.C.Column.items c.args.column.now)), ← c.look_over-survey.ensures.unsigned) c.put_run_table.ensures.ok

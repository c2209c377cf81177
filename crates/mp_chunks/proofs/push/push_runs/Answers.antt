use Rattle.std.proofs.Common.{rules, ap}
use Rattle.mp_chunks.proofs.RowsArePushed.{all_pushed, more_pushed}
use Rattle.mp_chunks.proofs.RunsArePushed.{next_row, no_next_row, none_left, run_pieces}
use Rattle.mp_chunks.proofs.push.push_runs.Goals as goal
use Rattle.mp_chunks.proofs.push.push_runs.Goals.{then-not-is_of, else-not-is_of}

pub loop-before-preserved : goal.loop-before-preserved
loop-before-preserved c =
    elim c.if-not-is_of.branch [
      | then-not-is_of w ↦ rw (w.out-is, w.run-is) (more_pushed _ _ _ _ _ _ _ c.loop-before.invariant (next_row _ _ _ _ c.loop-before-test.true (search rules) w.run_from-run.ensures) w.push_fields.ensures)
      | else-not-is_of w ↦ rw (w.out-is, w.run-is) (rw (no_next_row c.args.chunks.now c.loop-before.before c.loop-before.run c.loop-before-test.true (search rules)) at c.loop-before.invariant)
    ]

pub returns : goal.returns
returns c = all_pushed _ _ _ _ c.loop-before.invariant (ap run_pieces (none_left c.args.chunks.now c.loop-before.before c.loop-before.run c.loop-before-test.false))

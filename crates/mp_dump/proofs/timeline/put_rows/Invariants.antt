use Rattle.mp_dump.specs.Timeline.{row_lines}
use Rattle.mp_dump.proofs.RowsAreWritten.{AreWritten}
use Rattle.mp_dump.proofs.timeline.put_rows.Given as goal

abbrev pub invariant-loop-before : goal.invariant-loop-before
invariant-loop-before l = AreWritten row_lines l.track l.before l.decode l.out.items l.initial.out.items

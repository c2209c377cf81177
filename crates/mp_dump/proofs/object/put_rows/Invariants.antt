use Rattle.mp_dump.specs.Json.{row_value}
use Rattle.mp_dump.proofs.Commas.{left}
use Rattle.mp_dump.proofs.RowsAreWritten.{AreWritten}
use Rattle.mp_dump.proofs.object.put_rows.Given as goal

abbrev pub invariant-loop-before : goal.invariant-loop-before
invariant-loop-before l = AreWritten (left row_value) l.track l.before l.decode l.out.items l.initial.out.items

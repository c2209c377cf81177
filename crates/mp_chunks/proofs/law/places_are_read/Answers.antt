use Rattle.mp_chunks.proofs.NoFaultIsWritten.{are_read_back}
use Rattle.mp_chunks.proofs.law.places_are_read.Goals as goal

pub returns : goal.returns
returns c = record { each = are_read_back c.tables_are_read.ensures }

use Rattle.mp_entries.proofs.ReferencesAreRead.{references_are_read}
use Rattle.mp_entries.proofs.law.references_are_read.Goals as goal

pub returns : goal.returns
returns c = references_are_read

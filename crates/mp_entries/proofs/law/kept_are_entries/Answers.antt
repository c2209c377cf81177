use Rattle.mp_entries.proofs.KeptOfTables.{each_is, few_read}
use Rattle.mp_entries.proofs.law.kept_are_entries.Goals as goal

pub returns : goal.returns
returns c = record { each = each_is c.head_stays.ensures; few = few_read }

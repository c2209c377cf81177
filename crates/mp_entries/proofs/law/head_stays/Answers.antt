use Rattle.mp_entries.proofs.Keeping.{head_stays}
use Rattle.mp_entries.proofs.law.head_stays.Goals as goal

pub returns : goal.returns
returns c = head_stays c.heads_are_read.ensures

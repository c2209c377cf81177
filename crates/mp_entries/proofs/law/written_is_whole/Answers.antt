use Rattle.mp_entries.proofs.Keeping.{written_is_whole}
use Rattle.mp_entries.proofs.law.written_is_whole.Goals as goal

pub returns : goal.returns
returns c = written_is_whole c.heads_are_read.ensures

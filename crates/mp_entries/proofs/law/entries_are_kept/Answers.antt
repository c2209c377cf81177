use Rattle.mp_entries.proofs.EntriesAreKept.{entries_are_kept}
use Rattle.mp_entries.proofs.law.entries_are_kept.Goals as goal

pub returns : goal.returns
returns c = entries_are_kept

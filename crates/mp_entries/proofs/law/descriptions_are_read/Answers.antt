use Rattle.mp_entries.proofs.DescriptionsAreRead.{descriptions_are_read}
use Rattle.mp_entries.proofs.law.descriptions_are_read.Goals as goal

pub returns : goal.returns
returns c = descriptions_are_read c.numbers_are_read.ensures c.boxes_are_read.ensures c.boxes_are_whole.ensures c.entries_are_kept.ensures

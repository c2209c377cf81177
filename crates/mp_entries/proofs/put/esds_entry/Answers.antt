use Rattle.std.proofs.Common.{refl}
use Rattle.mp_entries.specs.Esds.{mp4a, mp4v}
use Rattle.mp_entries.proofs.Keeping.{entry_is, picture_is_entry, sound_is_entry}
use Rattle.mp_entries.proofs.put.esds_entry.Goals as goal

pub returns-then-entry-clause-well_formed : goal.returns-then-entry-clause-well_formed
returns-then-entry-clause-well_formed c =
    let e = c.args.entry.now in
    entry_is c.boxes_have_lengths.ensures c.sound_entry.result (mp4a e) refl (sound_is_entry e c.written_is_whole.ensures) c.sound_entry.ensures.written c.sound_entry.ensures.short

pub returns-else-entry-clause-well_formed : goal.returns-else-entry-clause-well_formed
returns-else-entry-clause-well_formed c =
    let e = c.args.entry.now in
    entry_is c.boxes_have_lengths.ensures c.picture_entry.result (mp4v e) refl (picture_is_entry e c.written_is_whole.ensures) c.picture_entry.ensures.written c.picture_entry.ensures.short

use Rattle.mp_edits.proofs.EditsAreAnywhere.{list_anywhere, listed, unlisted}
use Rattle.mp_edits.proofs.EditsAreReadBack.{list_read, box_read}
use Rattle.mp_edits.proofs.law.edits_are_read.Goals as goal

pub returns : goal.returns
returns c =
    let parts = c.parts_are_found.ensures in
    record {
      list = record { back = list_read c.tables_are_read.ensures };
      box = box_read c.tables_are_read.ensures parts c.boxes_have_lengths.ensures;
      anywhere = list_anywhere;
      listed = listed parts;
      unlisted = unlisted parts;
    }

use Rattle.std.proofs.Common.{◌≡◌, None}
use Rattle.mp_boxes.specs.Boxes.{IsBytes}
use Rattle.mp_entries.specs.Kept.{entry_fault}
use Rattle.mp_entries.proofs.Keeping.{kept_is_entry}
use Rattle.mp_entries.proofs.entry.read_entry.Goals as goal

pub returns-clause-well_formed : goal.returns-clause-well_formed
returns-clause-well_formed c =
    let head = c.requires.whole.head in
    let found = c.whole_head-head.ensures head c.requires.whole.read in
    let fine : entry_fault head.kind head.head c.args.bytes.now c.args.local.now ≡ None = rw found at c.in_default.ensures in
    let bytes : IsBytes c.args.bytes.now = λ at. (c.type_inv.bytes at).fits in
    rw (c.in_ok-entry.ensures, found) (kept_is_entry c.args.bytes.now c.args.local.now head bytes c.requires.whole.read c.requires.whole.ends fine c.head_stays.ensures)

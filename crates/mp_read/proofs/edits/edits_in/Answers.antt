use Rattle.mp_read.specs.Part.{part_of}
use Rattle.mp_read.proofs.EditLists.{edits_with, edits_without}
use Rattle.mp_read.proofs.edits.edits_in.Goals as goal

pub returns-in-Some : goal.returns-in-Some
returns-in-Some c =
    let box = part_of c.args.moov.now c.args.edts in
    rw (edits_with c.edits_are_read.ensures box (part_of c.args.moov.now c.in-Some.elst) c.in_ok-check_boxes.ensures.fault (rw c.in-Some.is at c.in_ok-elst.ensures.child)) (rw c.body.ensures at c.read_elst.ensures)

pub returns-in-None : goal.returns-in-None
returns-in-None c =
    edits_without c.edits_are_read.ensures (part_of c.args.moov.now c.args.edts) c.in_ok-check_boxes.ensures.fault (rw c.in-None.is at c.in_ok-elst.ensures.child)

use Rattle.mp_boxes.proofs.ChildrenAreFound.{first_given, whole_boxes}
use Rattle.mp_boxes.proofs.child.first_child.Goals as goal

pub next_child-requires-clause-cut : goal.next_child-requires-clause-cut
next_child-requires-clause-cut c = let w = whole_boxes c.args.base c.args.bytes.now c.type_inv.bytes c.requires.cut in (w.0, w.2)

pub returns-clause-child : goal.returns-clause-child
returns-clause-child c =
    let w = whole_boxes c.args.base c.args.bytes.now c.type_inv.bytes c.requires.cut in
    first_given c.args.base c.args.bytes.now c.args.kind w.0 w.1 c.next_child.result (c.next_child.ensures.next w.0 w.2)

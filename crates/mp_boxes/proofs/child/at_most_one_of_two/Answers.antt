use Rattle.std.proofs.Common.{refl}
use Rattle.mp_boxes.specs.Child.{of_either}
use Rattle.mp_boxes.proofs.ChildrenAreFound.{one_found, two_found, whole_boxes}
use Rattle.mp_boxes.proofs.child.at_most_one_of_two.Goals as goal

pub next_of_two-requires-clause-cut : goal.next_of_two-requires-clause-cut
next_of_two-requires-clause-cut c = let w = whole_boxes c.args.base c.args.bytes.now c.type_inv.bytes c.requires.cut in (w.0, w.2)

pub returns-in_default-clause-child : goal.returns-in_default-clause-child
returns-in_default-clause-child c =
    let w = whole_boxes c.args.base c.args.bytes.now c.type_inv.bytes c.requires.cut in
    rw (w.1, c.in_default.ensures.next w.0 w.2) refl

pub next_of_two-requires-2-clause-cut : goal.next_of_two-requires-2-clause-cut
next_of_two-requires-2-clause-cut c =
    let w = whole_boxes c.args.base c.args.bytes.now c.type_inv.bytes c.requires.cut in
    let first = c.in-Some.ensures.next w.0 w.2 in
    (first.others, first.cut)

pub returns-in-Some-next_of_two-clause-child : goal.returns-in-Some-next_of_two-clause-child
returns-in-Some-next_of_two-clause-child c =
    let w = whole_boxes c.args.base c.args.bytes.now c.type_inv.bytes c.requires.cut in
    let first = c.in-Some.ensures.next w.0 w.2 in
    let second = c.in-Some-next_of_two.ensures.next first.others first.cut in
    rw (w.1, c.at.ensures) (two_found (of_either c.args.kind c.args.other) c.args.base c.args.bytes.now w.0 c.in-Some.child c.in-Some-next_of_two.second first second)

pub returns-in-None-clause-child : goal.returns-in-None-clause-child
returns-in-None-clause-child c =
    let w = whole_boxes c.args.base c.args.bytes.now c.type_inv.bytes c.requires.cut in
    let first = c.in-Some.ensures.next w.0 w.2 in
    let none = c.in-None.ensures.next first.others first.cut in
    (first.first, rw w.1 (one_found (of_either c.args.kind c.args.other) c.args.base c.args.bytes.now w.0 c.in-Some.child first none), rw c.of.ensures (record { kind = first.head.kind; span = first.head.span }))

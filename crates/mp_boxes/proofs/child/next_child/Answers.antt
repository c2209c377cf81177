use Rattle.mp_boxes.proofs.ChildrenAreFound.{next_same}
use Rattle.mp_boxes.proofs.child.next_child.Goals as goal

pub returns-clause-next : goal.returns-clause-next
returns-clause-next c = λ left cut. next_same c.args.kind c.args.base c.args.bytes.now left c.next_of_two.result (c.next_of_two.ensures.next left cut)

use Rattle.std.proofs.Common.{Ok, Err, None, sym}
use Rattle.mp_boxes.proofs.FrontIsEnough.{head_from-front, next_head-front}
use Rattle.mp_boxes.proofs.NextBoxes.{at_end as at_the_end, next_of}
use Rattle.mp_boxes.proofs.WholeBoxes.{whole_at}
use Rattle.mp_boxes.proofs.head.next_box.Goals as goal

pub returns-in-Ok-clause-head : goal.returns-in-Ok-clause-head
returns-in-Ok-clause-head c = sym (next_head-front c.args.base c.args.at c.min.result c.args.bytes.now (Ok c.in-Ok.found) c.requires.inside c.if-at-bytes.false c.min.ensures c.in-Ok.ensures)

pub returns-in-Err-clause-head : goal.returns-in-Err-clause-head
returns-in-Err-clause-head c =
    rw c.at.ensures (sym (next_head-front c.args.base c.args.at c.min.result c.args.bytes.now (Err c.in-Err.code) c.requires.inside c.if-at-bytes.false c.min.ensures c.in-Err.ensures))

pub returns-then-at-bytes-clause-next : goal.returns-then-at-bytes-clause-next
returns-then-at-bytes-clause-next c = next_of c.args.base c.args.at c.args.bytes.now (Ok None) c.requires.inside (at_the_end c.args.base c.args.at c.args.bytes.now c.if-at-bytes.true)

pub returns-in-Ok-clause-next : goal.returns-in-Ok-clause-next
returns-in-Ok-clause-next c =
    next_of c.args.base c.args.at c.args.bytes.now _ c.requires.inside (next_head-front c.args.base c.args.at c.min.result c.args.bytes.now (Ok c.in-Ok.found) c.requires.inside c.if-at-bytes.false c.min.ensures c.in-Ok.ensures)

pub returns-in-Err-clause-next : goal.returns-in-Err-clause-next
returns-in-Err-clause-next c =
    next_of c.args.base c.args.at c.args.bytes.now _ c.requires.inside (next_head-front c.args.base c.args.at c.min.result c.args.bytes.now (Err c.in-Err.code) c.requires.inside c.if-at-bytes.false c.min.ensures c.in-Err.ensures)

pub returns-in-Ok-clause-whole : goal.returns-in-Ok-clause-whole
returns-in-Ok-clause-whole c =
    whole_at c.args.at c.args.bytes.now c.in-Ok.found c.type_inv.bytes (sym (head_from-front c.args.at c.min.result c.args.bytes.now (Ok c.in-Ok.found) c.requires.inside c.min.ensures c.in-Ok.ensures))

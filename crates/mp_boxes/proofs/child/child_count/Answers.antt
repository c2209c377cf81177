use Rattle.std.proofs.Common.{arith}
use Rattle.mp_boxes.proofs.ChildrenAreFound.{none_counted, one_counted}
use Rattle.mp_boxes.proofs.child.child_count.Goals as goal

pub loop-child-init : goal.loop-child-init
loop-child-init c = record { inside = omega arith; few = omega arith; counted = none_counted c.args.base c.args.bytes.now c.args.kind c.type_inv.bytes c.requires.cut }

pub loop-child-preserved : goal.loop-child-preserved
loop-child-preserved c =
    let i = c.loop-child.invariant in
    let few = i.few in
    let there = c.in-Some.ensures.inside in
    let ends = there.ends in
    let header = there.header in
    let some = there.some in
    let behind = c.in-Some.ensures.behind in
    record {
      inside = omega arith;
      few = omega arith;
      counted = one_counted c.args.base c.args.bytes.now c.args.kind c.loop-child.at c.loop-child.count c.in-Some.child i.counted (c.in-Some.ensures.next i.counted.left i.counted.cut);
    }

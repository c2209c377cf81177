use Rattle.std.proofs.Common.{Ok, Option, subst, sym, ◌∙◌, arith}
use Rattle.mp_boxes.specs.declared.head.BoxHead.{BoxHead}
use Rattle.mp_boxes.specs.Child.{IsNextOf}
use Rattle.mp_boxes.proofs.ChildrenAreFound.{one_passed}
use Rattle.mp_boxes.proofs.child.next_of_two.Goals as goal

pub loop-child-preserved : goal.loop-child-preserved
loop-child-preserved c =
    let i = c.loop-child.invariant in
    let child = c.in-Ok-Some.child in
    let there = rw c.in-Ok-Some.field-0-is at c.in-Ok-Some.ensures.inside in
    let begins = there.begins in
    let ends = there.ends in
    record {
      inside = omega arith;
      behind = omega (arith, i.behind);
      passed = λ left cut.
          let p = i.passed left cut in
          let first = subst (λ (o : Option BoxHead). IsNextOf c.args.base c.args.bytes.now p.left (Ok o)) c.in-Ok-Some.field-0-is (c.in-Ok-Some.ensures.next p.left p.cut) in
          one_passed c.args.base c.args.bytes.now c.args.kind c.args.other c.loop-child.at left child p first (sym c.is_either.ensures ∙ c.if-is_either.false);
    }

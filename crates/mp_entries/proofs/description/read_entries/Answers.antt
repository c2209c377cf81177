use Rattle.std.proofs.Common.{Ok, Option, subst, arith}
use Rattle.mp_boxes.specs.declared.head.BoxHead.{BoxHead}
use Rattle.mp_boxes.specs.Child.{IsNextOf}
use Rattle.mp_entries.specs.Entry.{IsEntry}
use Rattle.mp_entries.proofs.EntriesInOrder.{all_more, one_kept}
use Rattle.mp_entries.proofs.description.read_entries.Goals as goal

pub loop-child-preserved : goal.loop-child-preserved
loop-child-preserved c =
    let i = c.loop-child.invariant in
    let child = c.in-Ok-Some.child in
    let there = rw c.in-Ok-Some.field-0-is at c.in-Ok-Some.ensures.inside in
    let begins = there.begins in
    let ends = there.ends in
    let first = subst (λ (o : Option BoxHead). IsNextOf c.args.base c.args.bytes.now i.kept.left (Ok o)) c.in-Ok-Some.field-0-is (c.in-Ok-Some.ensures.next i.kept.left i.kept.cut) in
    rw c.in_ok-push.ensures.items (record {
      inside = omega arith;
      kept = one_kept c.args.base c.args.bytes.now c.args.local.now c.loop-child.at c.loop-child.entries.items c.in_ok-entry.entry.items child i.kept first c.in_ok-entry.ensures.kept;
      entries = all_more IsEntry c.loop-child.entries.items c.in_ok-entry.entry.items i.entries c.in_ok-entry.ensures.well_formed;
    })

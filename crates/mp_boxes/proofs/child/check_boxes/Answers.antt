use Rattle.std.proofs.Common.{◌≡◌, false, Ok, Err, Some, None, sym, ap, ◌∙◌, arith}
use Rattle.std.proofs.lemmas.Result.{err_from_is_err_and}
use Rattle.mp_boxes.specs.Head.{next_head}
use Rattle.mp_boxes.proofs.CutInOneWay.{fault-read}
use Rattle.mp_boxes.proofs.FaultIsFirst.{walked_on, walked_all, walked_to_fault, all_read}
use Rattle.mp_boxes.proofs.child.check_boxes.Goals as goal

pub returns-in_err-child-clause-fault : goal.returns-in_err-child-clause-fault
returns-in_err-child-clause-fault c =
    let i = c.loop-child.invariant in
    let e : next_head c.args.base c.args.bytes.now c.loop-child.at ≡ Err c.in_err-child.field-0.0 = sym c.next_box.ensures.head ∙ c.in_err-child.was in
    let p = err_from_is_err_and c.from_residual.result c.from_residual.ensures.1 in
    let first = walked_to_fault c.args.base c.loop-child.at c.args.bytes.now c.in_err-child.field-0.0 i.inside e i.walked in
    rw (p.1, p.2) (fault-read false c.args.base c.args.bytes.now c.in_err-child.field-0.0 first)

pub loop-child-preserved : goal.loop-child-preserved
loop-child-preserved c =
    let i = c.loop-child.invariant in
    let e : next_head c.args.base c.args.bytes.now c.loop-child.at ≡ Ok (Some c.in-Some.child) = sym c.next_box.ensures.head ∙ (c.in_ok-child.was ∙ ap (λ o. Ok o) c.in-Some.is) in
    record { inside = omega (arith, (rw (c.in_ok-child.was, c.in-Some.is) at c.next_box.ensures.inside).ends); walked = walked_on c.args.base c.loop-child.at c.args.bytes.now c.in-Some.child c.type_inv.bytes i.inside e i.walked }

pub returns-clause-boxes : goal.returns-clause-boxes
returns-clause-boxes c =
    let e : next_head c.args.base c.args.bytes.now c.loop-child.at ≡ Ok None = sym c.next_box.ensures.head ∙ (c.in_ok-child.was ∙ ap (λ o. Ok o) c.in_default.is) in
    let w = walked_all c.args.base c.loop-child.at c.args.bytes.now e c.loop-child.invariant.walked in
    all_read c.args.base c.args.bytes.now w.0 w.1

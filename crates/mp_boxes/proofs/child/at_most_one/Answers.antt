use Rattle.std.proofs.Common.{Ok, Option, sym, subst, ◌∙◌}
use Rattle.std.proofs.lemmas.Result.{err_from_is_err_and}
use Rattle.mp_boxes.specs.declared.child.ChildBox.{ChildBox}
use Rattle.mp_boxes.specs.Child.{IsChildBox, MayGiveBox, optional_child_of_two}
use Rattle.mp_boxes.proofs.ChildrenAreFound.{optional_child_same}
use Rattle.mp_boxes.proofs.child.at_most_one.Goals as goal

pub returns-in_err-child-clause-child : goal.returns-in_err-child-clause-child
returns-in_err-child-clause-child c =
    let p = err_from_is_err_and c.from_residual.result c.from_residual.ensures.1 in
    rw (p.1, p.2) (sym (optional_child_same c.args.base c.args.bytes.now c.args.kind) ∙ c.in_err-child.ensures.child)

pub returns-in-Some-clause-child : goal.returns-in-Some-clause-child
returns-in-Some-clause-child c =
    let given = subst (λ (o : Option ChildBox). MayGiveBox (IsChildBox c.args.base c.args.bytes.now) (Ok o) (optional_child_of_two c.args.base c.args.bytes.now c.args.kind c.args.kind)) c.in-Some.is c.in_ok-child.ensures.child in
    (given.0, sym (optional_child_same c.args.base c.args.bytes.now c.args.kind) ∙ given.1, given.2.span)

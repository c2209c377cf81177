use Rattle.std.proofs.Common.{sym, ◌∙◌}
use Rattle.std.proofs.lemmas.Result.{err_from_is_err_and}
use Rattle.mp_boxes.proofs.ChildrenAreFound.{one_child_same}
use Rattle.mp_boxes.proofs.child.one.Goals as goal

pub returns-in_err-child-clause-child : goal.returns-in_err-child-clause-child
returns-in_err-child-clause-child c =
    let p = err_from_is_err_and c.from_residual.result c.from_residual.ensures.1 in
    rw (p.1, p.2) (sym (one_child_same c.args.base c.args.bytes.now c.args.kind) ∙ c.in_err-child.ensures.child)

pub returns-clause-child : goal.returns-clause-child
returns-clause-child c =
    let given = c.in_ok-child.ensures.child in
    (given.0, sym (one_child_same c.args.base c.args.bytes.now c.args.kind) ∙ given.1, given.2.span)

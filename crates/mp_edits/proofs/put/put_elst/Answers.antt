use Rattle.std.proofs.Common.{[], ◌∙◌, sym, arith}
use Rattle.std.proofs.lemmas.List.{append-nil}
use Rattle.mp_edits.specs.Written.{elst}
use Rattle.mp_edits.proofs.put.put_elst.Goals as goal

pub returns-clause-written : goal.returns-clause-written
returns-clause-written c =
    let begun = c.in_ok-reserve.ensures.one_box (elst c.args.edits.now) (omega (arith, c.elst_len.ensures)) in
    sym (append-nil _) ∙ (c.push_elst.ensures [] _ begun).items

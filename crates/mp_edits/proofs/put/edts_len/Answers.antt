use Rattle.std.proofs.Common.{[], ◌∷◌, refl, arith}
use Rattle.std.specs.Prelude.{codes}
use Rattle.mp_edits.specs.Written.{elst}
use Rattle.mp_edits.proofs.put.edts_len.Goals as goal

pub returns-in-Some : goal.returns-in-Some
returns-in-Some c =
    let len = c.box_len.ensures.boxes (codes "edts") (elst c.in-Some.edits.now ∷ []) refl (omega (arith, c.elst_len.ensures.len)) in
    rw c.in-Some.is (omega (arith, len))

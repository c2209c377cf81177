use Rattle.std.proofs.Common.{[], ◌∷◌, refl, arith}
use Rattle.std.specs.Prelude.{codes}
use Rattle.mp_entries.specs.Reference.{dref}
use Rattle.mp_layout.proofs.trak.dinf_len.Goals as goal

pub returns : goal.returns
returns c = c.box_len.ensures.boxes (codes "dinf") (dref ∷ []) refl (omega (arith, c.dref_len.ensures))

use Rattle.std.proofs.Common.{[], ◌∷◌}
use Rattle.mp_entries.specs.Reference.{dref}
use Rattle.mp_layout.proofs.trak.push_dinf.Goals as goal

pub returns : goal.returns
returns c = λ rest all p. c.push_dref.ensures rest all (c.begin_box.ensures.boxes (dref ∷ []) c.dinf_len.ensures rest all p)

use Rattle.std.proofs.Common.{[], ◌∷◌}
use Rattle.mp_entries.specs.Reference.{url}
use Rattle.mp_entries.proofs.reference.push_dref.Goals as goal

pub returns : goal.returns
returns c = λ rest all p.
    let begun = c.begin_box.ensures.boxes (url ∷ []) (rw c.version_and_flags.ensures c.dref_len.ensures) rest all (rw c.version_and_flags.ensures p) in
    c.push_box.ensures rest all (rw c.version_and_flags-2.ensures begun)

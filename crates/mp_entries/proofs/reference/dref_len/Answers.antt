use Rattle.std.proofs.Common.{[], ◌∷◌, refl}
use Rattle.std.specs.Prelude.{codes}
use Rattle.mp_entries.specs.Reference.{url}
use Rattle.mp_entries.proofs.reference.dref_len.Goals as goal

pub returns : goal.returns
returns c = rw c.version_and_flags.ensures at (c.box_len.ensures.boxes (codes "dref") (url ∷ []) refl c.url_len.ensures)

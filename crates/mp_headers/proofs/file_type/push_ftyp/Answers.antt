use Rattle.std.specs.Prelude.{codes}
use Rattle.mp_headers.specs.FileType.{ftyp}
use Rattle.mp_headers.proofs.Pushed.{same_body}
use Rattle.mp_headers.proofs.file_type.push_ftyp.Goals as goal

pub returns : goal.returns
returns c = same_body _ _ (codes "ftyp") _ ftyp.body c.written.ensures c.push_box.ensures

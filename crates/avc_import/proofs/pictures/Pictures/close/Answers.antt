use Rattle.std.proofs.Common.{refl, rules}
use Rattle.avc_import.proofs.Keeping.{closes}
use Rattle.avc_import.proofs.pictures.Pictures.close.Goals as goal

pub returns : goal.returns
returns c = λ file size units stands. closes file size units _ _ (c.access_units_are_cut.ensures.joined units) stands refl refl refl (search rules)

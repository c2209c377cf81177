use Rattle.mp_clip.proofs.Multiples.{told_in_multiples}
use Rattle.mp_clip.proofs.law.shapes_can_be_told.Goals as goal

pub returns : goal.returns
returns c = told_in_multiples c.wholeness_is_division.ensures

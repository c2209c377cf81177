use Rattle.mp_timeline.proofs.EqualIsSame.{equal_is_same}
use Rattle.mp_timeline.proofs.SameIsEqual.{same_is_equal}
use Rattle.mp_timeline.proofs.law.sameness_is_equality.Goals as goal

pub returns : goal.returns
returns c = record { same = equal_is_same; equal = same_is_equal }

use Rattle.mp_clip.proofs.LeastScales.{divisors_settle}
use Rattle.mp_clip.proofs.law.divisors_give_scales.Goals as goal

pub returns : goal.returns
returns c = divisors_settle c.wholeness_is_division.ensures

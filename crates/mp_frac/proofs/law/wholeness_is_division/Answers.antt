use Rattle.mp_frac.proofs.WholeTimes.{whole_is_divided, divided_is_whole}
use Rattle.mp_frac.proofs.law.wholeness_is_division.Goals as goal

pub returns : goal.returns
returns c = λ scale time some some_d. (whole_is_divided scale time, divided_is_whole scale time some some_d)

use Rattle.mp_shown.proofs.SameTimes.{shows_the_same}
use Rattle.mp_shown.proofs.FinerTimes.{has_its_own_times, has_finer_times}
use Rattle.mp_shown.proofs.law.times_decide_what_is_shown.Goals as goal

pub returns : goal.returns
returns c = record { same = shows_the_same; itself = has_its_own_times c.sameness_is_equality.ensures; finer = has_finer_times }

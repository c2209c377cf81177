use Rattle.mp_movie.proofs.FilesMayFollow.{files_may_follow}
use Rattle.mp_movie.proofs.law.files_may_follow.Goals as goal

pub returns : goal.returns
returns c = files_may_follow

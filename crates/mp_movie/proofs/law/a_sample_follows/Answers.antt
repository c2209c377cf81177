use Rattle.mp_movie.proofs.SamplesFollow.{samples_follow}
use Rattle.mp_movie.proofs.law.a_sample_follows.Goals as goal

pub returns : goal.returns
returns c = samples_follow

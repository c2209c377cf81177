use Rattle.mp_read.proofs.MoviesAreRead.{stretches_held}
use Rattle.mp_read.proofs.law.stretches_are_held.Goals as goal

pub returns : goal.returns
returns c = stretches_held

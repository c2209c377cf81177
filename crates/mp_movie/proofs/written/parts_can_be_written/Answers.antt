use Rattle.mp_movie.proofs.NumbersFit.{parts_can}
use Rattle.mp_movie.proofs.written.parts_can_be_written.Goals as goal

pub returns : goal.returns
returns c = parts_can

use Rattle.mp_pieces.proofs.Gathering.{unread}
use Rattle.mp_pieces.proofs.gather.reach.Goals as goal

pub returns-in-Err-clause-read : goal.returns-in-Err-clause-read
returns-in-Err-clause-read g c = λ e. unread _ _ _ _ _ c.in-Ok.ensures.gathered c.in-Err.ensures.failed

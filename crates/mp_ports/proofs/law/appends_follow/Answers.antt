use Rattle.mp_ports.proofs.Writing.{appends_more, fails_first, fails_later, fails_last}
use Rattle.mp_ports.proofs.law.appends_follow.Goals as goal

pub returns : goal.returns
returns c = record { more = appends_more; first = fails_first; later = fails_later; last = fails_last }

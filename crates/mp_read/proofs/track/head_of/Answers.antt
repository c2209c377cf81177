use Rattle.std.proofs.Common.{refl}
use Rattle.mp_read.proofs.track.head_of.Goals as goal

pub returns : goal.returns
returns c = rw (c.in_ok-udta.ensures, c.in_ok-name.ensures.items, c.name_of.ensures, c.body.ensures) refl

use Rattle.mp_shown.proofs.PiecesShow.{pieces-within, pieces-after, pieces-total}
use Rattle.mp_shown.proofs.law.pieces_show.Goals as goal

pub returns : goal.returns
returns c = record { within = pieces-within; after = pieces-after; total = pieces-total }

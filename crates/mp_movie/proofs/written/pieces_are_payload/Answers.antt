use Rattle.mp_movie.proofs.PiecesInOrder.{pieces_joined}
use Rattle.mp_movie.proofs.written.pieces_are_payload.Goals as goal

pub returns : goal.returns
returns c = pieces_joined

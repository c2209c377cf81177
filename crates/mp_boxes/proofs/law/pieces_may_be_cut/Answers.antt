use Rattle.mp_boxes.proofs.PiecesAreLeft.{left_as}
use Rattle.mp_boxes.proofs.law.pieces_may_be_cut.Goals as goal

pub returns : goal.returns
returns c = left_as

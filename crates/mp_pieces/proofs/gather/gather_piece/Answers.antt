use Rattle.std.proofs.lemmas.Result.{IfOk-weaker}
use Rattle.mp_pieces.proofs.Pieces.{piece_on, piece_unread, piece_unwritten, prefix_unwritten}
use Rattle.mp_pieces.proofs.gather.gather_piece.Goals as goal

pub returns-in_default-clause-write : goal.returns-in_default-clause-write
returns-in_default-clause-write g c = λ e. prefix_unwritten _ _ c.args.piece _ c.in_default.ensures.failed

pub returns-clause-gathered : goal.returns-clause-gathered
returns-clause-gathered g c = IfOk-weaker c.gather_range.result _ _ (λ next second. piece_on _ _ _ c.args.piece _ _ _ c.in-Ok.ensures.gathered second) c.gather_range.ensures.gathered

pub returns-clause-read : goal.returns-clause-read
returns-clause-read g c = λ e. piece_unread _ _ _ c.args.piece _ _ c.in-Ok.ensures.gathered (c.gather_range.ensures.read e)

pub returns-clause-write : goal.returns-clause-write
returns-clause-write g c = λ e. piece_unwritten _ _ _ c.args.piece _ _ c.in-Ok.ensures.gathered (c.gather_range.ensures.write e)

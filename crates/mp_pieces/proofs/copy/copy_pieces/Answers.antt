use Rattle.std.proofs.Common.{refl, arith, ◌∙◌}
use Rattle.mp_pieces.proofs.Pieces.{nothing_yet, blank_stands, pieces_on, pieces_unread, pieces_unwritten, pieces_written, rest_unwritten, same_fault}
use Rattle.mp_pieces.proofs.copy.copy_pieces.Goals as goal

pub loop-at-init : goal.loop-at-init
loop-at-init g c = record {
  gathers = nothing_yet _ _ c.args.window.now _ c.blank_stand-stand.ensures;
  stands = blank_stands _ _ _ c.blank_stand-stand.ensures;
  room = refl;
}

pub returns-in-Err-clause-read : goal.returns-in-Err-clause-read
returns-in-Err-clause-read g c = λ e. pieces_unread _ _ _ c.args.pieces.now c.loop-at.at _ _ c.loop-at-test.true c.loop-at.invariant.gathers (c.in-Err.ensures.read (same_fault _ _ e))

pub returns-in-Err-clause-write : goal.returns-in-Err-clause-write
returns-in-Err-clause-write g c = λ e. pieces_unwritten _ _ _ c.args.pieces.now c.loop-at.at _ _ c.loop-at-test.true c.loop-at.invariant.gathers (c.in-Err.ensures.write (same_fault _ _ e))

pub loop-at-preserved : goal.loop-at-preserved
loop-at-preserved g c = record {
  gathers = pieces_on _ _ _ c.args.pieces.now c.loop-at.at _ _ _ c.loop-at-test.true c.loop-at.invariant.gathers c.in-Ok.ensures.gathered;
  stands = c.in-Ok.ensures.stands;
  room = c.gather_piece.ensures.room ∙ c.loop-at.invariant.room;
}

pub returns-in-Ok-flush-clause-copied : goal.returns-in-Ok-flush-clause-copied
returns-in-Ok-flush-clause-copied g c = pieces_written _ _ _ c.args.pieces.now c.loop-at.at _ (omega (arith, c.loop-at-test.false)) c.loop-at.invariant.gathers c.in-Ok-flush.ensures.appended

pub returns-in-Err-flush-clause-write : goal.returns-in-Err-flush-clause-write
returns-in-Err-flush-clause-write g c = λ e. rest_unwritten _ _ _ c.args.pieces.now c.loop-at.at _ (omega (arith, c.loop-at-test.false)) c.loop-at.invariant.gathers c.in-Err-flush.ensures.failed

use Rattle.std.proofs.Common.{All, List, arith, subst, take_all}
use Rattle.std.proofs.lemmas.List.Elements.{All-more}
use Rattle.mp_pieces.specs.declared.piece.Piece.{Piece}
use Rattle.mp_pieces.specs.Copied.{sizes_of}
use Rattle.mp_pieces.specs.Piece.{IsHeld}
use Rattle.mp_pieces.proofs.tests.are_held.Goals as goal

pub loop-piece-preserved : goal.loop-piece-preserved
loop-piece-preserved c = All-more (IsHeld (sizes_of c.args.folder.now.folder.folder)) c.args.pieces.now c.loop-piece.piece-index _ c.loop-piece-test.true c.loop-piece.invariant (c.is_held.ensures c.if-not-is_held.false)

pub returns : goal.returns
returns c = λ _.
    subst (λ (ps : List Piece). All (IsHeld (sizes_of c.args.folder.now.folder.folder)) ps) (take_all c.loop-piece.piece-index c.args.pieces.now (omega (arith, c.loop-piece-test.false))) c.loop-piece.invariant

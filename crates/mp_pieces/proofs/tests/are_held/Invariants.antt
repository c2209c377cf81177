use Rattle.std.proofs.Common.{All, take}
use Rattle.mp_pieces.specs.Copied.{sizes_of}
use Rattle.mp_pieces.specs.Piece.{IsHeld}
use Rattle.mp_pieces.proofs.tests.are_held.Given as goal

abbrev pub invariant-loop-piece : goal.invariant-loop-piece
invariant-loop-piece l = All (IsHeld (sizes_of l.folder.folder.folder)) (take l.piece-index l.pieces)

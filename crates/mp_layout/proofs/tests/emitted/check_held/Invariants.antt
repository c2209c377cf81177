use Rattle.std.proofs.Common.{All, take}
use Rattle.mp_pieces.specs.Copied.{sizes_of}
use Rattle.mp_pieces.specs.Piece.{IsHeld}
use Rattle.mp_layout.proofs.tests.emitted.check_held.Given as goal

-- the pieces so far do
abbrev pub invariant-loop-piece : goal.invariant-loop-piece
invariant-loop-piece g l = All (IsHeld (sizes_of (g.F.Folder.state l.folder))) (take l.piece-index l.pieces)

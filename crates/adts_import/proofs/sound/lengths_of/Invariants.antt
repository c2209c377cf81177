use Rattle.std.proofs.Common.{◌≡◌, map, pos, take}
use Rattle.mp_pieces.specs.declared.piece.Piece.{Piece}
use Rattle.adts_import.proofs.sound.lengths_of.Given as goal

abbrev pub invariant-loop-piece : goal.invariant-loop-piece
invariant-loop-piece l = l.column ≡ map (λ (piece : Piece). pos piece.len) (take l.piece-index l.pieces)

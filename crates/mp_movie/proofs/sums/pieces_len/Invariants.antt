use Rattle.std.proofs.Common.{◌≡◌, take}
use Rattle.std.specs.List.{sum_by}
use Rattle.mp_boxes.specs.Table.{capped}
use Rattle.mp_pieces.specs.Piece.{piece_len}
use Rattle.mp_movie.proofs.sums.pieces_len.Given as goal

-- the sum of the pieces so far
abbrev pub invariant-loop-piece : goal.invariant-loop-piece
invariant-loop-piece l = l.sum ≡ capped (sum_by piece_len (take l.piece-index l.pieces))

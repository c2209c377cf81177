-- Pieces of a file, one sample after another.
use Rattle.std.proofs.Common.{◌≡◌, ℕ, ◌+◌, List, [], ◌∷◌, ◌++◌, map, sym, arith}
use Rattle.std.specs.List.{range_with_len}
use Rattle.std.proofs.lemmas.List.FromFn.{map-range_with_len_more}
use Rattle.mp_chunks.specs.Samples.{PlacesRecord}
use Rattle.mp_pieces.specs.declared.piece.Piece.{Piece}
use Rattle.mp_read.specs.Parts.{piece_in}

pub next_piece : (file : ℕ) (places : PlacesRecord) (i : ℕ) (pieces : List Piece) → pieces ≡ map (piece_in file places) (range_with_len 0 i)
    → pieces ++ piece_in file places i ∷ [] ≡ map (piece_in file places) (range_with_len 0 (i + 1))
next_piece file places i pieces e = rw e (sym (map-range_with_len_more (piece_in file places) 0 i i (omega arith)))

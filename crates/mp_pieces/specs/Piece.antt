-- Pieces of opened files, and the bytes that they stand for.
use Rattle.std.specs.Prelude.{ℕ, ◌+◌, ◌<◌, ◌≤◌, List, [], ◌++◌, length, take, drop, get_or, Option, Some, None, flat_map}
use Rattle.std.specs.Int.{w32, to_be_bytes}
use Rattle.mp_pieces.specs.declared.piece.Piece.{Piece}

-- a prefix, most significant byte first
abbrev pub prefix_bytes : Option ℕ → List ℕ
prefix_bytes None = []
prefix_bytes (Some prefix) = to_be_bytes w32 prefix

-- the number of a piece's bytes
abbrev pub piece_len : Piece → ℕ
piece_len piece = piece.len + length (prefix_bytes piece.prefix)

-- so many bytes behind its prefix, where the opened files have these bytes, each at its number
abbrev pub range_bytes : List (List ℕ) → Piece → ℕ → List ℕ
range_bytes files piece len = take len (drop piece.from (get_or files piece.file []))

-- the bytes of a piece
abbrev pub piece_bytes : List (List ℕ) → Piece → List ℕ
piece_bytes files piece = prefix_bytes piece.prefix ++ range_bytes files piece piece.len

-- the bytes of the pieces, one behind the other
abbrev pub pieces_bytes : List (List ℕ) → List Piece → List ℕ
pieces_bytes files pieces = flat_map (piece_bytes files) pieces

-- the piece lies in one of the opened files of these sizes
pub record IsHeld (sizes : List ℕ) (piece : Piece) : Type 0 where
  pub opened : piece.file < length sizes
  pub inside : piece.from + piece.len ≤ get_or sizes piece.file 0

-- What is said of a movie whose samples are pieces of one opened file.
use Rattle.std.specs.Prelude.{◌≡◌, ◌<◌, ◌+◌, ◌≤◌, ◌&&◌, ◌||◌, ◌==◌, nat_le, Bool, true, ℕ, List, None, get_or, length}
use Rattle.std.specs.List.{AllByRecursion}
use Rattle.mp_ports.specs.declared.code.Code.{Code}
use Rattle.mp_ports.specs.declared.fault.Bad.{Bad}
use Rattle.mp_ports.specs.Code.{number}
use Rattle.mp_pieces.specs.declared.piece.Piece.{Piece}
use Rattle.mp_movie.specs.Placed.{PlacedMovie}
use Rattle.mp_movie.specs.StandsFor.{Hold}

-- a piece is a stretch of that file, which has so many bytes
pub record IsStretch (file size : ℕ) (piece : Piece) : Type 0 where
  pub names : piece.file ≡ file
  pub inside : piece.from + piece.len ≤ size
  pub bare : piece.prefix ≡ None

-- each piece of a movie is one
abbrev pub LiesIn : ℕ → ℕ → PlacedMovie → Type 0
LiesIn file size movie = AllByRecursion (λ track. AllByRecursion (IsStretch file size) track.pieces) movie.tracks

-- opened files hold a movie that lies in one of them
abbrev pub StretchesAreHeld : Type 0
StretchesAreHeld = (sizes : List ℕ) (file : ℕ) (movie : PlacedMovie) → file < length sizes → LiesIn file (get_or sizes file 0) movie → Hold sizes movie

-- the code of a check of a file: one of its boxes, or one of a limit
abbrev pub is_file_code : Code → Bool
is_file_code code = let n = number code in (nat_le 10 n && nat_le n 31) || (n == 87) || (n == 88) || (nat_le 90 n && nat_le n 93)

-- a refusal of a file that is read, whatever its bytes are
pub record IsFileRefusal (bad : Bad) : Type 0 where
  pub code : is_file_code bad.code ≡ true
  pub command : bad.command ≡ 0
  pub named : bad.file ≡ 0

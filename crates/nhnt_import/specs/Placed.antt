-- Where the samples of a pair stand in its `.media` file, and the movie that has them there (ISO/IEC 14496-12, 8.6 and 8.7).
use Rattle.std.specs.Prelude.{◌≡◌, ℕ, ℤ, ◌+◌, ◌≤◌, ◌^◌, ◌<◌, pos, List, [], ◌∷◌, length, map, replicate, All, None, Result}
use Rattle.mp_ports.specs.Checks.{unless}
use Rattle.mp_ports.specs.declared.fault.Bad.{Bad}
use Rattle.mp_columns.specs.declared.columns.TheConstants.{MOST_ITEMS}
use Rattle.mp_pieces.specs.declared.piece.Piece.{Piece}
use Rattle.mp_timeline.specs.Plain.{plain_track_head}
use Rattle.mp_movie.specs.Placed.{PlacedTrack, PlacedMovie, empty_track, mark_of, movie_of_track, plain_scale}
use Rattle.nhnt_import.specs.declared.head.Head.{Head}
use Rattle.nhnt_import.specs.declared.unit.AccessUnit.{AccessUnit}
use Rattle.nhnt_import.specs.Head.{IsHead, head_of}
use Rattle.nhnt_import.specs.Unit.{is_sync, units_in}
use Rattle.nhnt_import.specs.Times.{deltas, offsets}
use Rattle.nhnt_import.specs.Entry.{entry_bytes, handler}
use Rattle.nhnt_import.specs.Fault.{pair_fault}

-- the bytes of a unit, in the opened file of that number
abbrev pub piece_of : ℕ → AccessUnit → Piece
piece_of file unit = record { file = file; from = unit.from; len = unit.len; prefix = None }

abbrev pub pieces_of : ℕ → List AccessUnit → List Piece
pieces_of file units = map (piece_of file) units

-- for each unit the number 1
abbrev pub ones : List AccessUnit → List ℤ
ones units = replicate (length units) (pos 1)

-- a track of these units, one sample and one piece each, of the one entry
unfoldable pub placed_track : Head → List ℕ → ℕ → List AccessUnit → PlacedTrack
placed_track head info file units = record (empty_track 1 (plain_track_head (handler head)) head.scale (entry_bytes head info ∷ [])) {
  deltas = deltas units;
  offsets = offsets units;
  syncs = map (λ unit. mark_of (is_sync unit)) units;
  kinds = ones units;
  sizes = map (λ unit. pos unit.len) units;
  counts = ones units;
  pieces = pieces_of file units;
}

-- the movie of one such track
abbrev pub placed_movie : Head → List ℕ → ℕ → List AccessUnit → PlacedMovie
placed_movie head info file units = movie_of_track plain_scale (placed_track head info file units)

-- the movie of a pair whose `.media` file is the opened file of that number and has so many bytes, or the pair's first fault
abbrev pub pair_places : ℕ → ℕ → List ℕ → List ℕ → Result PlacedMovie Bad
pair_places file size table info =
    unless (pair_fault size table info) (placed_movie (head_of table) info file (units_in table))

-- a stretch of that file of so many bytes, as short as a unit
pub record IsUnitPiece (file size : ℕ) (piece : Piece) : Type 0 where
  pub names : piece.file ≡ file
  pub inside : piece.from + piece.len ≤ size
  pub bare : piece.prefix ≡ None
  pub short : piece.len < 2 ^ 24

-- units of that file, as many as a movie keeps samples
pub record AreUnitPieces (file size : ℕ) (units : List AccessUnit) : Type 0 where
  pub few : length units ≤ MOST_ITEMS
  pub each_one : All (IsUnitPiece file size) (pieces_of file units)

-- a movie of units in that file of so many bytes
pub record IsImported (file size : ℕ) (movie : PlacedMovie) : Type 0 where
  pub head : Head
  pub info : List ℕ
  pub units : List AccessUnit
  pub fits : IsHead head
  pub parts : AreUnitPieces file size units
  pub is : movie ≡ placed_movie head info file units

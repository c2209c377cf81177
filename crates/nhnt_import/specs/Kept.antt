-- The columns of units while they are read: a number that passes a limit is kept as another one that passes it, too.
use Rattle.std.specs.Prelude.{◌≡◌, ℕ, ℤ, pos, ◌-ℤ◌, ◌^◌, ◌-◌, ◌==◌, ◌||◌, min, List, [], ◌∷◌, ◌++◌, length, map, replicate, slice_index_or, slice_range, Option, None, IfSome, if◌then◌else◌}
use Rattle.mp_pieces.specs.declared.piece.Piece.{Piece}
use Rattle.mp_times.specs.Written.{is_unsigned}
use Rattle.mp_timeline.specs.Plain.{plain_track_head}
use Rattle.mp_movie.specs.Placed.{PlacedTrack, empty_track, mark_of}
use Rattle.mp_movie.specs.PartsFit.{is_signed}
use Rattle.nhnt_import.specs.declared.head.Head.{Head}
use Rattle.nhnt_import.specs.declared.unit.AccessUnit.{AccessUnit}
use Rattle.nhnt_import.specs.Unit.{is_sync, units_in}
use Rattle.nhnt_import.specs.Times.{gaps}
use Rattle.nhnt_import.specs.Fault.{records_fault}
use Rattle.nhnt_import.specs.Entry.{entry_bytes, handler}
use Rattle.nhnt_import.specs.Placed.{AreUnitPieces, piece_of, pieces_of}

-- a column for each number that is kept of the units, and their pieces
pub record UnitColumns : Type 0 where
  pub deltas : List ℤ
  pub offsets : List ℤ
  pub syncs : List ℤ
  pub sizes : List ℤ
  pub pieces : List Piece

-- a duration, as it is kept
abbrev pub kept_delta : ℕ → ℤ
kept_delta duration = pos (min duration (2 ^ 32))

-- an offset, as it is kept
unfoldable pub kept_offset : ℤ → ℤ
kept_offset offset = if is_unsigned offset || is_signed offset then offset else pos (2 ^ 32)

-- that of a unit
abbrev pub offset_of : AccessUnit → ℤ
offset_of unit = kept_offset (pos unit.composition -ℤ pos unit.decode)

-- the columns while units are read: what is kept of each is how much later than the one before it is decoded
unfoldable pub columns_so_far : ℕ → List AccessUnit → UnitColumns
columns_so_far file units = record {
  deltas = map kept_delta (gaps 0 units);
  offsets = map offset_of units;
  syncs = map (λ unit. mark_of (is_sync unit)) units;
  sizes = map (λ unit. pos unit.len) units;
  pieces = pieces_of file units;
}

-- columns with a unit more, behind one that is decoded at the time `before`
abbrev pub with_unit : ℕ → UnitColumns → ℕ → AccessUnit → UnitColumns
with_unit file columns before unit = record {
  deltas = columns.deltas ++ kept_delta (unit.decode - before) ∷ [];
  offsets = columns.offsets ++ offset_of unit ∷ [];
  syncs = columns.syncs ++ mark_of (is_sync unit) ∷ [];
  sizes = columns.sizes ++ pos unit.len ∷ [];
  pieces = columns.pieces ++ piece_of file unit ∷ [];
}

-- the decode time of the last of the units, or `before`
abbrev pub last_decode : ℕ → List AccessUnit → ℕ
last_decode before [] = before
last_decode before (unit ∷ units) = last_decode unit.decode units

-- the last item of the column, or 0 where it is the only one
abbrev pub last_delta : List ℤ → ℤ
last_delta deltas = if length deltas == 1 then pos 0 else slice_index_or deltas (length deltas - 1) (pos 0)

-- the column without its first item, and its last item again
unfoldable pub closed : List ℤ → List ℤ
closed deltas = if length deltas == 0 then deltas else slice_range deltas 1 (length deltas) ++ last_delta deltas ∷ []

-- so many ones
abbrev pub ones_for : List Piece → List ℤ
ones_for pieces = replicate (length pieces) (pos 1)

-- the track of these columns
unfoldable pub track_of : Head → List ℕ → UnitColumns → PlacedTrack
track_of head info columns = record (empty_track 1 (plain_track_head (handler head)) head.scale (entry_bytes head info ∷ [])) {
  deltas = closed columns.deltas;
  offsets = columns.offsets;
  syncs = columns.syncs;
  kinds = ones_for columns.pieces;
  sizes = columns.sizes;
  counts = ones_for columns.pieces;
  pieces = columns.pieces;
}

-- the columns are those of units in that file of so many bytes
pub record AreOf (file size : ℕ) (columns : UnitColumns) (units : List AccessUnit) : Type 0 where
  pub is : columns ≡ columns_so_far file units
  pub parts : AreUnitPieces file size units

-- and these are the units of the table, where it is told, and none of its records has a fault
pub record AreRead (told : Option (List ℕ)) (file size : ℕ) (columns : UnitColumns) : Type 0 where
  pub units : List AccessUnit
  pub are : AreOf file size columns units
  pub read : IfSome told (λ table. (units ≡ units_in table) × (records_fault size table ≡ None))

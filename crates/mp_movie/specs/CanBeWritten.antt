-- What is written of a movie: numbers that fit the fields of its boxes (ISO/IEC 14496-12, 8.3 to 8.7), and the bytes
-- of its pieces.
use Rattle.std.specs.Prelude.{◌≡◌, ℕ, List, ◌<◌, ◌≤◌, ◌^◌, All, length, None}
use Rattle.std.specs.List.{AllByRecursion, flat_map}
use Rattle.std.specs.Int.{w32, FitsUnsigned}
use Rattle.mp_times.specs.Written.{FitOffsets}
use Rattle.mp_entries.specs.Description.{most_entries}
use Rattle.mp_edits.specs.EditBox.{AreEdits}
use Rattle.mp_movie.specs.Placed.{PlacedTrack, PlacedMovie}
use Rattle.mp_pieces.specs.Piece.{pieces_bytes}
use Rattle.mp_movie.specs.StandsFor.{samples_of}
use Rattle.mp_movie.specs.WholeParts.{AreColumns, AreParts}
use Rattle.mp_movie.specs.PartsFit.{first_limit}

-- a track that can be written: it is well formed, and its numbers fit the fields
pub record CanBeWritten (track : PlacedTrack) : Type 0 where
  pub flags : track.head.flags < 2 ^ 24
  pub scale : 0 < track.scale
  pub entries : length track.entries ≤ most_entries
  pub columns : AreColumns track
  pub deltas : All (FitsUnsigned w32) track.deltas
  pub offsets : FitOffsets track.offsets
  pub sizes : All (FitsUnsigned w32) track.sizes
  pub edits : AreEdits track.edits

-- each track of well-formed parts that pass no limit
abbrev pub PartsCanBeWritten : Type 0
PartsCanBeWritten =
    (movie : PlacedMovie) → AreParts movie → first_limit movie ≡ None → AllByRecursion CanBeWritten movie.tracks

-- the bytes of a track's samples, one after another, are those of its pieces
abbrev pub PiecesArePayload : Type 0
PiecesArePayload =
    (files : List (List ℕ)) (track : PlacedTrack) → AreColumns track
    → flat_map (λ sample. sample.bytes) (samples_of files track) ≡ pieces_bytes files track.pieces

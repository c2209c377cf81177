-- What the laws of the parts of movies say.
use Rattle.std.specs.Prelude.{◌≡◌, ◌≤◌, ℕ, ℤ, pos, All, Bool, ◌+ℤ◌, List, ◌∷◌, [], ◌++◌, length, map, IfSome, None, sum}
use Rattle.std.specs.Int.{w32, FitsUnsigned}
use Rattle.std.specs.List.{AllByRecursion, flat_map}
use Rattle.mp_columns.specs.declared.columns.TheConstants.{MOST_ITEMS}
use Rattle.mp_times.specs.Written.{FitOffsets}
use Rattle.mp_entries.specs.Description.{most_entries}
use Rattle.mp_pieces.specs.declared.piece.Piece.{Piece}
use Rattle.mp_pieces.specs.Piece.{piece_bytes}
use Rattle.mp_timeline.specs.Movie.{SampleRecord}
use Rattle.mp_movie.specs.Columns.{composition_offsets, durations, entry_numbers, sizes, sync_marks}
use Rattle.mp_movie.specs.Limits.{Fits, FitsEdits, most_tracks}
use Rattle.mp_movie.specs.WellFormed.{IsWellFormed}
use Rattle.mp_movie.specs.Placed.{PlacedTrack, PlacedMovie, naturals, sample_count, with_sample}
use Rattle.mp_movie.specs.StandsFor.{Hold, HoldTrack, samples_of, stands_for}
use Rattle.mp_movie.specs.WholeParts.{AreColumns, AreParts}
use Rattle.mp_movie.specs.PartsFit.{first_limit}

-- the sample of these pieces that follows those of a track
abbrev pub next_sample : List (List ℕ) → PlacedTrack → ℕ → ℤ → Bool → ℕ → List Piece → SampleRecord
next_sample files track delta offset sync kind pieces =
    let decode = sum (naturals track.deltas) in
    record {
      bytes = flat_map (piece_bytes files) pieces;
      decode = decode;
      dur = delta;
      comp = pos decode +ℤ offset;
      sync = sync;
      entry = kind;
    }

-- columns stay columns with one sample more, of one of the entries, and stand for one sample more
pub record SamplesFollow : Type 0 where
  pub columns : (track : PlacedTrack) (delta kind : ℕ) (offset : ℤ) (sync : Bool) (pieces : List Piece)
      → AreColumns track → 1 ≤ kind → kind ≤ length track.entries → AreColumns (with_sample track delta offset sync kind pieces)
  pub samples : (files : List (List ℕ)) (track : PlacedTrack) (delta kind : ℕ) (offset : ℤ) (sync : Bool) (pieces : List Piece)
      → AreColumns track
      → samples_of files (with_sample track delta offset sync kind pieces) ≡ samples_of files track ++ next_sample files track delta offset sync kind pieces ∷ []

-- the columns of a track are those of the samples that it stands for
pub record ColumnsAreKept : Type 0 where
  pub count : (files : List (List ℕ)) (track : PlacedTrack) → length (samples_of files track) ≡ length track.deltas
  pub durations : (files : List (List ℕ)) (track : PlacedTrack) → AreColumns track → durations (samples_of files track) ≡ track.deltas
  pub offsets : (files : List (List ℕ)) (track : PlacedTrack) → AreColumns track → composition_offsets (samples_of files track) ≡ track.offsets
  pub syncs : (files : List (List ℕ)) (track : PlacedTrack) → AreColumns track → sync_marks (samples_of files track) ≡ track.syncs
  pub kinds : (files : List (List ℕ)) (track : PlacedTrack) → AreColumns track → entry_numbers (samples_of files track) ≡ track.kinds
  pub sizes : (files : List (List ℕ)) (track : PlacedTrack) → AreColumns track → HoldTrack (map length files) track
      → map pos (sizes (samples_of files track)) ≡ track.sizes

-- well-formed parts stand for a well-formed movie, and where files hold its pieces it is within the limits exactly where the parts are
pub record PartsStandForMovies : Type 0 where
  pub well_formed : (files : List (List ℕ)) (movie : PlacedMovie) → AreParts movie → IsWellFormed (stands_for files movie)
  pub fits : (files : List (List ℕ)) (movie : PlacedMovie) → AreParts movie → Hold (map length files) movie → first_limit movie ≡ None → Fits (stands_for files movie)
  pub limited : (files : List (List ℕ)) (movie : PlacedMovie) → AreParts movie → Hold (map length files) movie → Fits (stands_for files movie) → first_limit movie ≡ None

-- further files change nothing
pub record FilesMayFollow : Type 0 where
  pub hold : (sizes more : List ℕ) (movie : PlacedMovie) → Hold sizes movie → Hold (sizes ++ more) movie
  pub same : (files more : List (List ℕ)) (movie : PlacedMovie) → Hold (map length files) movie → stands_for (files ++ more) movie ≡ stands_for files movie

-- the parts of a track pass none of the limits of a track
pub record AreWithinLimits (track : PlacedTrack) : Type 0 where
  pub durations : All (FitsUnsigned w32) track.deltas
  pub offsets : FitOffsets track.offsets
  pub edits : IfSome track.edits FitsEdits
  pub sizes : All (FitsUnsigned w32) track.sizes
  pub entries : length track.entries ≤ most_entries

-- where none of the tracks passes one, and there are neither too many samples nor too many tracks, the movie passes no limit
abbrev pub LimitsAreOfTracks : Type 0
LimitsAreOfTracks =
    (movie : PlacedMovie) → AllByRecursion AreWithinLimits movie.tracks → sample_count movie.tracks ≤ MOST_ITEMS → length movie.tracks ≤ most_tracks → first_limit movie ≡ None

-- The movie of the tables of a file: each sample is one piece of the file (ISO/IEC 14496-12, 8.7).
use Rattle.std.specs.Prelude.{◌≡◌, ◌≤◌, ℕ, pos, List, All, length, map, replicate, slice_index, slice_index_or, unsigned_abs, None}
use Rattle.std.specs.Int.{w32, FitsUnsigned}
use Rattle.std.specs.List.{range_with_len}
use Rattle.mp_columns.specs.declared.columns.TheConstants.{MOST_ITEMS}
use Rattle.mp_chunks.specs.Samples.{PlacesRecord}
use Rattle.mp_pieces.specs.declared.piece.Piece.{Piece}
use Rattle.mp_movie.specs.Placed.{PlacedTrack, PlacedMovie}
use Rattle.mp_read.specs.Movie.{MovieTablesRecord}
use Rattle.mp_read.specs.Track.{TrackTablesRecord}

-- the sample before which there are so many, as a piece of that file
abbrev pub piece_in : ℕ → PlacesRecord → ℕ → Piece
piece_in file places before = record {
  file = file;
  from = slice_index places.from before;
  len = unsigned_abs (slice_index_or places.sizes before (pos 0));
  prefix = None;
}

-- each sample
unfoldable pub pieces_in : ℕ → PlacesRecord → List Piece
pieces_in file places = map (piece_in file places) (range_with_len 0 (length places.from))

-- a track of that file by its tables
abbrev pub placed_track : ℕ → TrackTablesRecord → PlacedTrack
placed_track file track = record {
  number = track.number;
  head = track.head;
  scale = track.scale;
  entries = track.entries;
  deltas = track.columns.durations;
  offsets = track.columns.composition_offsets;
  syncs = track.columns.sync_marks;
  kinds = track.columns.places.kinds;
  sizes = track.columns.places.sizes;
  counts = replicate (length track.columns.places.from) (pos 1);
  pieces = pieces_in file track.columns.places;
  edits = track.edits;
}

-- the movie
abbrev pub placed_movie : ℕ → MovieTablesRecord → PlacedMovie
placed_movie file movie = record { scale = movie.scale; head = movie.head; tracks = map (placed_track file) movie.tracks }

-- there is a size for each place, and it fits 32 bits
pub record HasSizes (track : TrackTablesRecord) : Type 0 where
  pub few : length track.columns.places.from ≤ MOST_ITEMS
  pub each : length track.columns.places.sizes ≡ length track.columns.places.from
  pub fit : All (FitsUnsigned w32) track.columns.places.sizes

-- The movie that a movie of pieces stands for, where the files have these bytes: the list of them has the bytes of each opened
-- file at its number.
use Rattle.std.specs.Prelude.{◌≡◌, ℕ, ℤ, pos, List, [], length, map, take, drop, slice_index, slice_index_or, get_or, sum, Result}
use Rattle.std.specs.List.{AllByRecursion, flat_map, range_with_len}
use Rattle.mp_ports.specs.declared.fault.Bad.{Bad}
use Rattle.mp_ports.specs.declared.fault.ReadFail.{ReadFail}
use Rattle.mp_ports.specs.Gives.{Gives, read_refusal}
use Rattle.mp_times.specs.Sync.{is_sync}
use Rattle.mp_times.specs.Times.{composition_time, decode_time}
use Rattle.mp_pieces.specs.declared.piece.Piece.{Piece}
use Rattle.mp_pieces.specs.Piece.{IsHeld, piece_bytes}
use Rattle.mp_timeline.specs.Movie.{SampleRecord, TrackRecord, MovieRecord}
use Rattle.mp_movie.specs.Placed.{PlacedTrack, PlacedMovie, naturals}

-- the pieces of the sample before which there are so many, by how many pieces each sample has
unfoldable pub pieces_at : List ℕ → List Piece → ℕ → List Piece
pieces_at counts pieces before = take (slice_index counts before) (drop (sum (take before counts)) pieces)

-- those of a sample of a track
abbrev pub pieces_of : PlacedTrack → ℕ → List Piece
pieces_of track before = pieces_at (naturals track.counts) track.pieces before

-- that sample: its bytes are those of its pieces, one after another
unfoldable pub sample_at : List (List ℕ) → PlacedTrack → ℕ → SampleRecord
sample_at files track before =
    let durations = naturals track.deltas in
    record {
      bytes = flat_map (piece_bytes files) (pieces_of track before);
      decode = decode_time durations before;
      dur = slice_index durations before;
      comp = composition_time durations track.offsets before;
      sync = is_sync (slice_index_or track.syncs before (pos 0));
      entry = slice_index (naturals track.kinds) before;
    }

-- the samples of a track, in the order in which they are decoded
unfoldable pub samples_of : List (List ℕ) → PlacedTrack → List SampleRecord
samples_of files track = map (sample_at files track) (range_with_len 0 (length track.deltas))

-- a track with these samples
abbrev pub with_samples : PlacedTrack → List SampleRecord → TrackRecord
with_samples track samples = record {
  number = track.number;
  head = track.head;
  scale = track.scale;
  entries = track.entries;
  samples = samples;
  edits = track.edits;
}

-- a track, with its samples
abbrev pub track_for : List (List ℕ) → PlacedTrack → TrackRecord
track_for files track = with_samples track (samples_of files track)

-- a movie
abbrev pub stands_for : List (List ℕ) → PlacedMovie → MovieRecord
stands_for files movie = record { scale = movie.scale; head = movie.head; tracks = map (track_for files) movie.tracks }

-- each piece lies in its file; the files have these sizes
abbrev pub HoldTrack : List ℕ → PlacedTrack → Type 0
HoldTrack sizes track = AllByRecursion (IsHeld sizes) track.pieces

abbrev pub Hold : List ℕ → PlacedMovie → Type 0
Hold sizes movie = AllByRecursion (HoldTrack sizes) movie.tracks

-- where that file has those bytes, whatever the other files have, the answer stands for what is wanted
abbrev pub Reads : ℕ → List ℕ → Result PlacedMovie ReadFail → Result MovieRecord Bad → Type 0
Reads file bytes result wanted = (files : List (List ℕ)) → get_or files file [] ≡ bytes → Gives read_refusal (stands_for files) result wanted

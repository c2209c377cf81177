-- The file of a movie as it is appended to a folder.
use Rattle.std.specs.Prelude.{◌≡◌, ℕ, ℤ, ◌-◌, ◌<◌, ◌≤◌, List, [], drop, get_or, length, map, sum, take}
use Rattle.std.specs.List.{flat_map}
use Rattle.mp_ports.specs.Count.{after_fault}
use Rattle.mp_ports.specs.Folder.{FolderState, Appends}
use Rattle.mp_ports.specs.Told.{followed_by}
use Rattle.mp_pieces.specs.declared.piece.Piece.{Piece}
use Rattle.mp_pieces.specs.Copied.{IsFront, Tells}
use Rattle.mp_movie.specs.Placed.{PlacedMovie, PlacedTrack, naturals}
use Rattle.mp_movie.specs.StandsFor.{Hold, stands_for}
use Rattle.mp_interleave.specs.declared.chunk.Chunk.{Chunk}
use Rattle.mp_layout.specs.declared.pieces.Start.{Start}
use Rattle.mp_layout.specs.Chunked.{column_at}
use Rattle.mp_layout.specs.File.{file_bytes}

-- the pieces of all tracks
abbrev pub pieces_of : PlacedMovie → List Piece
pieces_of movie = flat_map (λ track. track.pieces) movie.tracks

-- the pieces of the samples of a chunk
abbrev pub chunk_pieces : List PlacedTrack → Chunk → List Piece
chunk_pieces tracks chunk =
    let counts = naturals (column_at (λ track. track.counts) tracks chunk.track) in
    let pieces = get_or (map (λ track. track.pieces) tracks) chunk.track [] in
    take (sum (take chunk.count (drop (chunk.first - 1) counts))) (drop (sum (take (chunk.first - 1) counts)) pieces)

-- the pieces of the samples of all chunks, in the order of the file
abbrev pub pieces_in : List PlacedTrack → List Chunk → List Piece
pieces_in tracks chunks = flat_map (chunk_pieces tracks) chunks

-- so many of the pieces of a track are those of so many of its samples
pub record IsStart (counts : List ℤ) (start : Start) : Type 0 where
  pub inside : start.sample ≤ length counts
  pub piece_is : start.piece ≡ sum (take start.sample (naturals counts))

-- and so it is for each track
pub record AreStarts (tracks : List PlacedTrack) (starts : List Start) : Type 0 where
  pub len : length starts ≡ 64
  pub each : (position : ℕ) (d : Start) → position < length tracks → IsStart (column_at (λ track. track.counts) tracks position) (get_or starts position d)

-- the folder tells that the files of the movie have these bytes, which hold its pieces
pub record AreTold (s : FolderState) (movie : PlacedMovie) (files : List (List ℕ)) : Type 0 where
  pub tells : Tells s files (pieces_of movie)
  pub hold : Hold (map length files) movie

-- the file that is written of the movie, its samples in windows of so many milliseconds, where its files have these bytes
abbrev pub written_of : PlacedMovie → ℕ → List (List ℕ) → List ℕ
written_of movie millis files = file_bytes (stands_for files movie) millis

-- bytes were appended, and nothing else changed: the whole file, where the movie's files are told
pub record EmitsFile (old new : FolderState) (movie : PlacedMovie) (millis : ℕ) : Type 0 where
  pub bytes : List ℕ
  pub appended : Appends old new bytes
  pub told : (files : List (List ℕ)) → AreTold old movie files → bytes ≡ written_of movie millis files

-- a read failed, and only a front of the file was appended
pub record StopsReading (old new : FolderState) (movie : PlacedMovie) (millis : ℕ) : Type 0 where
  pub bytes : List ℕ
  pub state : new ≡ record old { written = followed_by old.written bytes; read_faults = after_fault old.read_faults }
  pub told : (files : List (List ℕ)) → AreTold old movie files → IsFront bytes (written_of movie millis files)

-- a write failed, and only a front of the file was appended
pub record StopsWriting (old new : FolderState) (movie : PlacedMovie) (millis : ℕ) : Type 0 where
  pub bytes : List ℕ
  pub state : new ≡ record old { written = followed_by old.written bytes; write_faults = after_fault old.write_faults }
  pub told : (files : List (List ℕ)) → AreTold old movie files → IsFront bytes (written_of movie millis files)

-- Where the samples of a stream stand in its file, and the movie that has them there (ISO/IEC 14496-12, 8.6 and 8.7).
use Rattle.std.specs.Prelude.{◌≡◌, ℕ, ℤ, ◌+◌, ◌-◌, ◌^◌, ◌≤◌, ◌<◌, pos, List, [], ◌∷◌, length, map, replicate, All, None, codes}
use Rattle.mp_pieces.specs.declared.piece.Piece.{Piece}
use Rattle.mp_timeline.specs.Plain.{plain_track_head}
use Rattle.mp_movie.specs.Placed.{PlacedTrack, PlacedMovie, empty_track, movie_of_track, plain_scale}
use Rattle.adts_import.specs.declared.header.Configuration.{Configuration}
use Rattle.adts_import.specs.Header.{frame_len, header_len}
use Rattle.adts_import.specs.Frame.{IsConfiguration, most_frames}
use Rattle.adts_import.specs.Entry.{frequency, entry_bytes}

-- the payload of the frame that begins with `front` at that place of the file: what is behind its header
abbrev pub piece_at : ℕ → ℕ → List ℕ → Piece
piece_at file place front = record { file = file; from = place + header_len front; len = frame_len front - header_len front; prefix = None }

-- the payloads of frames that stand one after another from that place on
unfoldable pub pieces_from : ℕ → ℕ → List (List ℕ) → List Piece
pieces_from file place [] = []
pieces_from file place (frame ∷ frames) = piece_at file place frame ∷ pieces_from file (place + length frame) frames

-- the same number for each of these pieces
abbrev pub each : ℕ → List Piece → List ℤ
each number pieces = replicate (length pieces) (pos number)

-- a track of sound, each of its samples in one of these pieces: sync, of the one entry, composed when it is decoded
unfoldable pub placed_track : Configuration → List Piece → PlacedTrack
placed_track stream pieces = record (empty_track 1 (plain_track_head (codes "soun")) (frequency stream) (entry_bytes stream ∷ [])) {
  deltas = each 1024 pieces;
  offsets = each 0 pieces;
  syncs = each 1 pieces;
  kinds = each 1 pieces;
  sizes = map (λ piece. pos piece.len) pieces;
  counts = each 1 pieces;
  pieces = pieces;
}

-- the movie of one such track
abbrev pub placed_movie : Configuration → List Piece → PlacedMovie
placed_movie stream pieces = movie_of_track plain_scale (placed_track stream pieces)

-- a stretch of that file of so many bytes, as short as a frame
pub record IsPayload (file size : ℕ) (piece : Piece) : Type 0 where
  pub names : piece.file ≡ file
  pub inside : piece.from + piece.len ≤ size
  pub bare : piece.prefix ≡ None
  pub short : piece.len < 2 ^ 13

-- stretches of that file, as many as there can be frames
pub record ArePayloads (file size : ℕ) (pieces : List Piece) : Type 0 where
  pub some : 0 < length pieces
  pub few : length pieces ≤ most_frames
  pub each_one : All (IsPayload file size) pieces

-- a movie of sound in that file of so many bytes
pub record IsSound (file size : ℕ) (movie : PlacedMovie) : Type 0 where
  pub stream : Configuration
  pub pieces : List Piece
  pub fits : IsConfiguration stream
  pub payloads : ArePayloads file size pieces
  pub is : movie ≡ placed_movie stream pieces

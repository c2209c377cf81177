-- Tracks and movies as they are kept: a column for each number that is kept of the samples, and the pieces of files that their
-- bytes are in.
use Rattle.std.specs.Prelude.{ℕ, ℤ, pos, ◌+◌, List, [], ◌∷◌, ◌++◌, length, Bool, if◌then◌else◌, Option, None, unsigned_abs, map, sum, sum_by}
use Rattle.mp_pieces.specs.declared.piece.Piece.{Piece}
use Rattle.mp_pieces.specs.Piece.{piece_len}
use Rattle.mp_timeline.specs.declared.segment.Segment.{Segment}
use Rattle.mp_timeline.specs.Movie.{MovieHeadRecord, TrackHeadRecord}
use Rattle.mp_timeline.specs.Plain.{plain_movie_head}

-- a track: each column has an item for each sample, `counts` how many of the pieces the sample has, `sizes` how long these are
pub record PlacedTrack : Type 0 where
  pub number : ℕ
  pub head : TrackHeadRecord
  pub scale : ℕ
  pub entries : List (List ℕ)
  pub deltas : List ℤ
  pub offsets : List ℤ
  pub syncs : List ℤ
  pub kinds : List ℤ
  pub sizes : List ℤ
  pub counts : List ℤ
  pub pieces : List Piece
  pub edits : Option (List Segment)

-- a movie
pub record PlacedMovie : Type 0 where
  pub scale : ℕ
  pub head : MovieHeadRecord
  pub tracks : List PlacedTrack

-- the numbers of a column whose items aren't negative
abbrev pub naturals : List ℤ → List ℕ
naturals column = map unsigned_abs column

-- how many samples the tracks have together
abbrev pub sample_count : List PlacedTrack → ℕ
sample_count tracks = sum_by (λ track. length track.deltas) tracks

-- how many bytes the samples have together
abbrev pub payload_len : List PlacedTrack → ℕ
payload_len tracks = sum_by (λ track. sum (naturals track.sizes)) tracks

-- a track without samples and edits
abbrev pub empty_track : ℕ → TrackHeadRecord → ℕ → List (List ℕ) → PlacedTrack
empty_track number head scale entries = record {
  number = number;
  head = head;
  scale = scale;
  entries = entries;
  deltas = [];
  offsets = [];
  syncs = [];
  kinds = [];
  sizes = [];
  counts = [];
  pieces = [];
  edits = None;
}

-- a mark of a sync sample, or of another one
abbrev pub mark_of : Bool → ℤ
mark_of sync = if sync then pos 1 else pos 0

-- a track with one sample more, which has these pieces
abbrev pub with_sample : PlacedTrack → ℕ → ℤ → Bool → ℕ → List Piece → PlacedTrack
with_sample track delta offset sync kind pieces = record track {
  deltas = track.deltas ++ pos delta ∷ [];
  offsets = track.offsets ++ offset ∷ [];
  syncs = track.syncs ++ mark_of sync ∷ [];
  kinds = track.kinds ++ pos kind ∷ [];
  sizes = track.sizes ++ pos (sum_by piece_len pieces) ∷ [];
  counts = track.counts ++ pos (length pieces) ∷ [];
  pieces = track.pieces ++ pieces;
}

-- the movie of one track whose source says nothing of the movie
abbrev pub movie_of_track : ℕ → PlacedTrack → PlacedMovie
movie_of_track scale track = record { scale = scale; head = plain_movie_head; tracks = track ∷ [] }

-- the scale of a movie whose source has none: milliseconds
abbrev pub plain_scale : ℕ
plain_scale = 1000

-- the movie without tracks
abbrev pub empty_movie : PlacedMovie
empty_movie = record { scale = plain_scale; head = plain_movie_head; tracks = [] }

-- The chunks of a movie as it is kept: how long they are, where they stand, and what is said of them.
use Rattle.std.specs.Prelude.{◌≡◌, ℕ, ℤ, pos, ◌+◌, ◌-◌, ◌<◌, ◌==◌, Bool, false, List, [], ◌∷◌, length, map, max, sum, take, drop, get_or, slice_index_or, unsigned_abs, if◌then◌else◌}
use Rattle.mp_boxes.specs.Table.{capped}
use Rattle.mp_chunks.specs.declared.push.ChunkHead.{ChunkHead}
use Rattle.mp_movie.specs.Placed.{PlacedTrack, PlacedMovie, naturals}
use Rattle.mp_interleave.specs.declared.chunk.Chunk.{Chunk}
use Rattle.mp_interleave.specs.Order.{planned}
use Rattle.mp_layout.specs.declared.wide.Reach.{Reach}
use Rattle.mp_layout.specs.Moov.{trak}
use Rattle.mp_layout.specs.Tables.{Placing}
use Rattle.mp_layout.specs.Wide.{reach_at}
use Rattle.mp_layout.specs.Written.{BoxHasLen, CanBePlaced, IsPlaced}

-- the chunks are those of the movie in windows of some length
pub record IsChunkOrder (movie : PlacedMovie) (chunks : List Chunk) : Type 0 where
  pub millis : ℕ
  pub is : chunks ≡ planned millis movie

-- the column of the track at a position
abbrev pub column_at : (PlacedTrack → List ℤ) → List PlacedTrack → ℕ → List ℤ
column_at column tracks position = get_or (map column tracks) position []

-- how many bytes the samples of a chunk have together
abbrev pub len_of : List PlacedTrack → Chunk → ℕ
len_of tracks chunk = sum (take chunk.count (drop (chunk.first - 1) (naturals (column_at (λ track. track.sizes) tracks chunk.track))))

-- where each chunk stands, the first at `place`
abbrev pub places_behind : List PlacedTrack → ℕ → List Chunk → List ℕ
places_behind tracks place [] = []
places_behind tracks place (chunk ∷ chunks) = place ∷ places_behind tracks (capped (place + len_of tracks chunk)) chunks

-- what is said of a chunk that stands there
abbrev pub head_at : List PlacedTrack → Chunk → ℕ → ChunkHead
head_at tracks chunk place = record {
  place = place;
  samples = chunk.count;
  entry = unsigned_abs (slice_index_or (column_at (λ track. track.kinds) tracks chunk.track) (chunk.first - 1) (pos 0));
}

-- what is said of the chunks of the track at a position, where all chunks stand at these places
abbrev pub heads_on : List PlacedTrack → ℕ → List Chunk → List ℕ → List ChunkHead
heads_on tracks position (chunk ∷ chunks) (place ∷ places) =
    let later = heads_on tracks position chunks places in
    if chunk.track == position then head_at tracks chunk place ∷ later else later
heads_on tracks position _ _ = []

-- the greatest of the places of chunks, 0 where there is none
abbrev pub furthest : List ChunkHead → ℕ
furthest [] = 0
furthest (chunk ∷ chunks) = max chunk.place (furthest chunks)

-- so many chunks has the track at that position, so far does the furthest stand behind the payload's first byte, and so long is its
-- `trak` with places of 32 bits
pub record IsReach (scale : ℕ) (tracks : List PlacedTrack) (chunks : List Chunk) (places : List ℕ) (position : ℕ) (reach : Reach) : Type 0 where
  pub count : reach.chunks ≡ length (heads_on tracks position chunks places)
  pub last : reach.furthest ≡ furthest (heads_on tracks position chunks places)
  pub trak_len : (d : PlacedTrack) → BoxHasLen reach.trak (trak scale) (get_or tracks position d) (heads_on tracks position chunks places) false

-- and so it is of each of these tracks, one after another
pub record AreReaches (scale : ℕ) (tracks : List PlacedTrack) (chunks : List Chunk) (places : List ℕ) (count : ℕ) (reaches : List Reach) : Type 0 where
  pub len : length reaches ≡ count
  pub each : (position : ℕ) → position < count → IsReach scale tracks chunks places position (reach_at reaches position)

-- the chunks of each track can be written
abbrev pub CanAllBePlaced : List PlacedTrack → List Chunk → List ℕ → List Bool → Type 0
CanAllBePlaced tracks chunks places wide =
    (position : ℕ) → position < length tracks → CanBePlaced (heads_on tracks position chunks places) (get_or wide position false)

-- files that hold the bytes of the samples, and the chunks of each track, each at its place
abbrev pub ArePlaced : List (List ℕ) → List PlacedTrack → List Chunk → List ℕ → List Bool → (ℕ → Placing) → Type 0
ArePlaced files tracks chunks places wide placing =
    (position : ℕ) (d : PlacedTrack) → position < length tracks
    → IsPlaced files (get_or tracks position d) (heads_on tracks position chunks places) (get_or wide position false) (placing position)

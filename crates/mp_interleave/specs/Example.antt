-- Movies whose chunks were worked out by hand.
use Rattle.std.specs.Prelude.{ℕ, pos, List, [], ◌∷◌, codes, map}
use Rattle.mp_timeline.specs.Plain.{plain_movie_head, plain_track_head}
use Rattle.mp_movie.specs.Placed.{PlacedTrack, PlacedMovie, empty_track}
use Rattle.mp_interleave.specs.declared.chunk.Chunk.{Chunk}

-- a track of 1000 ticks a second, whose samples have these durations and entries
abbrev pub track_with : List ℕ → List ℕ → PlacedTrack
track_with durations entries = record (empty_track 1 (plain_track_head (codes "vide")) 1000 []) {
  deltas = map pos durations;
  kinds = map pos entries;
}

-- a movie of these tracks
abbrev pub movie_with : List PlacedTrack → PlacedMovie
movie_with tracks = record { scale = 1000; head = plain_movie_head; tracks = tracks }

-- the chunk of a track, from that sample on, of so many
abbrev pub chunk : ℕ → ℕ → ℕ → Chunk
chunk track first count = record { track = track; first = first; count = count }

-- four samples of a quarter of a second, and two of half a second
abbrev pub two_tracks : PlacedMovie
two_tracks = movie_with (
    track_with (250 ∷ 250 ∷ 250 ∷ 250 ∷ []) (1 ∷ 1 ∷ 1 ∷ 1 ∷ [])
    ∷ track_with (500 ∷ 500 ∷ []) (1 ∷ 1 ∷ [])
    ∷ [])

-- no sample; samples of no duration on a border of windows of half a second, the last of which is of another entry; and samples of
-- two entries in turn
abbrev pub three_tracks : PlacedMovie
three_tracks = movie_with (
    track_with [] []
    ∷ track_with (500 ∷ 0 ∷ 0 ∷ 500 ∷ []) (1 ∷ 1 ∷ 1 ∷ 2 ∷ [])
    ∷ track_with (1 ∷ 1 ∷ 1 ∷ 1 ∷ []) (1 ∷ 2 ∷ 1 ∷ 2 ∷ [])
    ∷ [])

-- their chunks, in windows of half a second
abbrev pub two_in_turn : List Chunk
two_in_turn = chunk 0 1 2 ∷ chunk 1 1 1 ∷ chunk 0 3 2 ∷ chunk 1 2 1 ∷ []

abbrev pub three_in_turn : List Chunk
three_in_turn = chunk 1 1 1 ∷ chunk 2 1 1 ∷ chunk 2 2 1 ∷ chunk 2 3 1 ∷ chunk 2 4 1 ∷ chunk 1 2 2 ∷ chunk 1 4 1 ∷ []

-- and in one window
abbrev pub two_whole : List Chunk
two_whole = chunk 0 1 4 ∷ chunk 1 1 2 ∷ []

abbrev pub three_whole : List Chunk
three_whole = chunk 1 1 3 ∷ chunk 1 4 1 ∷ chunk 2 1 1 ∷ chunk 2 2 1 ∷ chunk 2 3 1 ∷ chunk 2 4 1 ∷ []

-- and in windows of a millisecond, where the third track's samples stand in four, and the second track's last three far behind
abbrev pub three_fine : List Chunk
three_fine = chunk 1 1 1 ∷ chunk 2 1 1 ∷ chunk 2 2 1 ∷ chunk 2 3 1 ∷ chunk 2 4 1 ∷ chunk 1 2 2 ∷ chunk 1 4 1 ∷ []

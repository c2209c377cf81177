-- Where cursors stand between the chunks of a movie.
use Rattle.std.specs.Prelude.{◌≡◌, ℕ, ◌+◌, ◌≤◌, ◌==◌, List, [], ◌∷◌, map, length, take, drop, if◌then◌else◌}
use Rattle.std.specs.List.{range_with_len}
use Rattle.mp_movie.specs.Placed.{PlacedMovie}
use Rattle.mp_interleave.specs.declared.chunk.Chunk.{Chunk}
use Rattle.mp_interleave.specs.declared.cursors.ChunkCursors.{ChunkCursors}
use Rattle.mp_interleave.specs.Order.{Key, chunk_order, keys_in}

-- how many samples of the track at a position these chunks hold
abbrev pub held : List Chunk → ℕ → ℕ
held [] position = 0
held (chunk ∷ chunks) position = (if chunk.track == position then chunk.count else 0) + held chunks position

-- for each of so many tracks the number of its first sample that none of these chunks holds. Chunks hold the samples of a track in
-- turn, so that it follows those that are held
abbrev pub first_left : List Chunk → ℕ → List ℕ
first_left chunks tracks = map (λ position. held chunks position + 1) (range_with_len 0 tracks)

-- behind the first `done` chunks of these tracks
pub record IsPlace (tracks : List (List Key)) (done : ℕ) (next : List ℕ) : Type 0 where
  pub within : done ≤ length (chunk_order tracks)
  pub next_is : next ≡ first_left (take done (chunk_order tracks)) (length tracks)

-- the cursors stand between the chunks of the movie
abbrev pub StandAt : PlacedMovie → ChunkCursors → Type 0
StandAt movie cursors = IsPlace (keys_in cursors.window movie.tracks) cursors.done cursors.next.items

-- the chunk stands behind the first `done` of these tracks
pub record IsNext (tracks : List (List Key)) (done : ℕ) (chunk : Chunk) : Type 0 where
  pub splits : drop done (chunk_order tracks) ≡ chunk ∷ drop (done + 1) (chunk_order tracks)

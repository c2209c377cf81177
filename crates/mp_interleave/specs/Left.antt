-- What is left of tracks behind some of their chunks, and whose sample comes first.
use Rattle.std.specs.Prelude.{◌≡◌, ◌≢◌, ℕ, ℤ, pos, ◌+◌, ◌-◌, ◌<◌, ◌≤◌, ◌==◌, ◌&&◌, nat_le, List, [], ◌∷◌, length, drop, get_or, slice_index, slice_index_or, if◌then◌else◌, Option, Some, None}
use Rattle.mp_movie.specs.Placed.{PlacedTrack}
use Rattle.mp_interleave.specs.declared.chunk.Chunk.{Chunk}
use Rattle.mp_interleave.specs.Order.{Key, keys_in}
use Rattle.mp_interleave.specs.Place.{IsNext}

-- the window of the first sample
abbrev pub window_from : List Key → Option ℕ
window_from [] = None
window_from (key ∷ keys) = Some key.window

-- how many samples in front are of this window and entry
abbrev pub same_as : Key → List Key → ℕ
same_as key [] = 0
same_as key (next ∷ keys) = if (next.window == key.window) && (next.entry == key.entry) then same_as key keys + 1 else 0

-- how many samples in front are of one window and entry
abbrev pub run_len : List Key → ℕ
run_len [] = 0
run_len (key ∷ keys) = same_as key keys + 1

-- what is left of tracks, where so many samples of each are gone
abbrev pub tails : {A : Type 0} → (ℕ → ℕ) → ℕ → List (List A) → List (List A)
tails gone position [] = []
tails gone position (items ∷ tracks) = drop (gone position) items ∷ tails gone (position + 1) tracks

-- the earlier of a window at a position and of the least behind it
abbrev pub sooner : ℕ → Option ℕ → Option (ℕ × ℕ) → Option (ℕ × ℕ)
sooner position None best = best
sooner position (Some window) None = Some (position, window)
sooner position (Some window) (Some (other, least)) = if nat_le window least then Some (position, window) else Some (other, least)

-- the position and the window of the track whose first sample is in the least window, the earliest of those
abbrev pub least_from : ℕ → List (List Key) → Option (ℕ × ℕ)
least_from position [] = None
least_from position (keys ∷ tracks) = sooner position (window_from keys) (least_from (position + 1) tracks)

-- so many items from that one on are equal to it, and the one behind them isn't
pub record AreEqual (items : List ℤ) (from count : ℕ) : Type 0 where
  pub some : 0 < count
  pub inside : from + count ≤ length items
  pub equal : (i : ℕ) → i < count → slice_index_or items (from + i) (pos 0) ≡ slice_index_or items from (pos 0)
  pub other : from + count < length items → slice_index_or items (from + count) (pos 0) ≢ slice_index_or items from (pos 0)

-- the keys of the track at a position
abbrev pub track_at : {A : Type 0} → List (List A) → ℕ → List A
track_at tracks position = get_or tracks position []

-- the chunk that begins at the next sample of a track
abbrev pub chunk_from : List (List Key) → List ℕ → ℕ → Chunk
chunk_from tracks next track = record {
  track = track;
  first = slice_index next track;
  count = run_len (drop (slice_index next track - 1) (track_at tracks track));
}

-- the next chunk is of the track at that position, which has a sample left
pub record IsFirst (tracks : List PlacedTrack) (millis done : ℕ) (next : List ℕ) (position : ℕ) : Type 0 where
  pub inside : position < length tracks
  pub named : position < length next
  pub some : 1 ≤ slice_index next position
  pub left : (d : PlacedTrack) → slice_index next position - 1 < length (get_or tracks position d).deltas
  pub follows : IsNext (keys_in millis tracks) done (chunk_from (keys_in millis tracks) next position)

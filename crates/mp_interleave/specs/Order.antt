-- The order of the samples in the file, and their chunks (ISO/IEC 14496-12, 8.7.4; the windows are this project's own).
use Rattle.std.specs.Prelude.{ℕ, ◌+◌, ◌*◌, ◌/◌, ◌==◌, Bool, List, [], ◌∷◌, ◌++◌, map, filter, length, slice_index, if◌then◌else◌}
use Rattle.std.specs.List.{flat_map, range_with_len}
use Rattle.mp_columns.specs.Stretch.{Stretch, count_of, stretches}
use Rattle.mp_times.specs.Times.{decode_time}
use Rattle.mp_movie.specs.Durations.{greatest}
use Rattle.mp_movie.specs.Placed.{PlacedTrack, PlacedMovie, naturals}
use Rattle.mp_interleave.specs.declared.chunk.Chunk.{Chunk}

-- the window of a decode time: how many whole windows of so many milliseconds lie before it. With 0 there is one window
abbrev pub window_at : ℕ → ℕ → ℕ → ℕ
window_at millis scale decode = if millis == 0 then 0 else decode * 1000 / (scale * millis)

-- what the order asks of a sample: its number in its track, counted from 1, its window and its entry
pub record Key : Type 0 where
  pub number : ℕ
  pub window : ℕ
  pub entry : ℕ

abbrev pub same_entry : Key → Key → Bool
same_entry one other = one.entry == other.entry

-- samples of the track at a position that stand in a row, as a chunk
abbrev pub chunk_of : ℕ → Stretch Key → Chunk
chunk_of position keys = record { track = position; first = keys.first.number; count = count_of keys }

-- the chunks of a track in one window: its longest stretches of one entry there
abbrev pub chunks_in : ℕ → ℕ → List Key → List Chunk
chunks_in window position keys = map (chunk_of position) (stretches same_entry (filter (λ key. key.window == window) keys))

-- the chunks of one window, track by track
abbrev pub window_chunks : ℕ → ℕ → List (List Key) → List Chunk
window_chunks window position [] = []
window_chunks window position (keys ∷ tracks) = chunks_in window position keys ++ window_chunks window (position + 1) tracks

-- the greatest window
abbrev pub last_window : List (List Key) → ℕ
last_window tracks = greatest (flat_map (λ keys. map (λ key. key.window) keys) tracks)

-- the chunks of these tracks in the order of the file, window by window
unfoldable pub chunk_order : List (List Key) → List Chunk
chunk_order tracks = flat_map (λ window. window_chunks window 0 tracks) (range_with_len 0 (last_window tracks + 1))

-- the key of the sample before which there are so many
abbrev pub key_at : ℕ → PlacedTrack → ℕ → Key
key_at millis track before = record {
  number = before + 1;
  window = window_at millis track.scale (decode_time (naturals track.deltas) before);
  entry = slice_index (naturals track.kinds) before;
}

-- the keys of all samples of a track
unfoldable pub track_keys : ℕ → PlacedTrack → List Key
track_keys millis track = map (key_at millis track) (range_with_len 0 (length track.deltas))

-- the keys of tracks, their samples in windows of so many milliseconds
abbrev pub keys_in : ℕ → List PlacedTrack → List (List Key)
keys_in millis tracks = map (track_keys millis) tracks

-- the chunks of a movie in the order of the file, its samples in windows of so many milliseconds
abbrev pub planned : ℕ → PlacedMovie → List Chunk
planned millis movie = chunk_order (keys_in millis movie.tracks)

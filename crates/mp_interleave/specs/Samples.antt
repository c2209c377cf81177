-- The chunks of a movie with their samples.
use Rattle.std.specs.Prelude.{ℕ, ◌+◌, ◌-◌, List, [], ◌∷◌, map, take, drop, get_or, slice_index}
use Rattle.mp_timeline.specs.Movie.{SampleRecord, TrackRecord, MovieRecord}
use Rattle.mp_interleave.specs.declared.chunk.Chunk.{Chunk}
use Rattle.mp_interleave.specs.Order.{Key, chunk_order, window_at}

-- the keys of samples in a row, of which the first has this number
abbrev pub keys_from : ℕ → ℕ → ℕ → List SampleRecord → List Key
keys_from millis scale number [] = []
keys_from millis scale number (sample ∷ samples) =
    record { number = number; window = window_at millis scale sample.decode; entry = sample.entry }
    ∷ keys_from millis scale (number + 1) samples

-- the keys of all samples of a track
unfoldable pub keys_of : ℕ → TrackRecord → List Key
keys_of millis track = keys_from millis track.scale 1 track.samples

-- the samples of the track at a position
abbrev pub samples_at : List TrackRecord → ℕ → List SampleRecord
samples_at tracks position = get_or (map (λ track. track.samples) tracks) position []

-- a chunk with its samples. The track is named by its position, from 0
pub record SampleChunk : Type 0 where
  pub track : ℕ
  pub samples : List SampleRecord

-- the chunk with its samples
abbrev pub with_samples : List TrackRecord → Chunk → SampleChunk
with_samples tracks chunk = record {
  track = chunk.track;
  samples = take chunk.count (drop (chunk.first - 1) (samples_at tracks chunk.track));
}

-- the entry of the samples of a chunk: that of the first
abbrev pub entry_of : SampleChunk → ℕ
entry_of chunk = slice_index (map (λ sample. sample.entry) chunk.samples) 0

-- the chunks of a movie in the order of the file, its samples in windows of so many milliseconds
unfoldable pub chunks_of : ℕ → MovieRecord → List SampleChunk
chunks_of millis movie = map (with_samples movie.tracks) (chunk_order (map (keys_of millis) movie.tracks))

-- The samples' bytes in the order of the file, and where its chunks stand (ISO/IEC 14496-12, 8.1.1 and 8.7.5).
use Rattle.std.specs.Prelude.{ℕ, ◌+◌, ◌==◌, List, [], ◌∷◌, length, if◌then◌else◌}
use Rattle.std.specs.List.{flat_map}
use Rattle.mp_timeline.specs.Movie.{SampleRecord}
use Rattle.mp_chunks.specs.Written.{PlacedChunk}
use Rattle.mp_movie.specs.Columns.{sizes}
use Rattle.mp_interleave.specs.Samples.{SampleChunk, entry_of}

-- the bytes of samples in a row
abbrev pub joined : List SampleRecord → List ℕ
joined samples = flat_map (λ sample. sample.bytes) samples

-- the bytes of a chunk
abbrev pub chunk_bytes : SampleChunk → List ℕ
chunk_bytes chunk = joined chunk.samples

-- the samples' bytes, and nothing else
unfoldable pub payload : List SampleChunk → List ℕ
payload chunks = flat_map chunk_bytes chunks

-- the place of each chunk, one behind the other, where the first stands at `place`
abbrev pub places_from : ℕ → List SampleChunk → List ℕ
places_from place [] = []
places_from place (chunk ∷ chunks) = place ∷ places_from (place + length (chunk_bytes chunk)) chunks

-- the chunk, where its first byte stands there
abbrev pub placed : ℕ → SampleChunk → PlacedChunk
placed place chunk = record { place = place; entry = entry_of chunk; sizes = sizes chunk.samples }

-- the chunks of one track, each at its place, where the first chunk of the movie stands at `place`
abbrev pub chunks_at : ℕ → ℕ → List SampleChunk → List PlacedChunk
chunks_at position place [] = []
chunks_at position place (chunk ∷ chunks) =
    let later = chunks_at position (place + length (chunk_bytes chunk)) chunks in
    if chunk.track == position then placed place chunk ∷ later else later

-- The chunks and places of samples (ISO/IEC 14496-12, 8.7.4 and 8.7.5). Samples and chunks are numbered from 1.
use Rattle.std.specs.Prelude.{ℕ, ◌+◌, ◌-◌, Bool, nat_le, nat_lt, List, length, map, take, drop, slice_index, slice_index_or, sum, find, Option, Some, None}
use Rattle.std.specs.List.{range_with_len}
use Rattle.mp_chunks.specs.declared.chunks.ChunkRun.{ChunkRun}
use Rattle.mp_chunks.specs.Chunks.{run_at}

-- how many samples each chunk holds
abbrev pub counts_of : List ChunkRun → List ℕ
counts_of chunks = map (λ chunk. chunk.samples) chunks

-- how many samples the first chunks hold, by what each holds
abbrev pub held : List ℕ → ℕ → ℕ
held counts chunks = sum (take chunks counts)

-- the chunk of a sample: the least one such that it and those before it hold that many samples
unfoldable pub chunk_of : List ℕ → ℕ → Option ℕ
chunk_of counts sample = find (λ chunk. nat_le sample (held counts chunk)) (range_with_len 1 (length counts))

-- its number, and 0 where the chunks hold fewer samples
abbrev pub or_zero : Option ℕ → ℕ
or_zero None = 0
or_zero (Some chunk) = chunk

-- the sizes of the earlier samples of its chunk
abbrev pub earlier_sizes : List ℕ → List ℕ → ℕ → ℕ → List ℕ
earlier_sizes counts sizes chunk sample = drop (held counts (chunk - 1)) (take (sample - 1) sizes)

-- the place of a sample in its chunk: the place of the chunk and the sizes of its earlier samples
abbrev pub place_of : List ℕ → List ℕ → List ℕ → ℕ → ℕ → ℕ
place_of offsets counts sizes chunk sample = slice_index offsets (chunk - 1) + sum (earlier_sizes counts sizes chunk sample)

-- a sample: its size in bytes, the number of its entry, and its place in the file
pub record SamplePlace : Type 0 where
  pub size : ℕ
  pub kind : ℕ
  pub from : ℕ

-- the sample of this number in that chunk
abbrev pub sample_in : List ChunkRun → List ℕ → List ℕ → ℕ → ℕ → SamplePlace
sample_in chunks offsets sizes chunk sample = record {
  size = slice_index sizes (sample - 1);
  kind = (run_at chunks (chunk - 1)).entry;
  from = place_of offsets (counts_of chunks) sizes chunk sample;
}

-- the sample of this number
unfoldable pub sample_of : List ChunkRun → List ℕ → List ℕ → ℕ → SamplePlace
sample_of chunks offsets sizes sample = sample_in chunks offsets sizes (or_zero (chunk_of (counts_of chunks) sample)) sample

-- the samples, in order
unfoldable pub samples_of : List ChunkRun → List ℕ → List ℕ → List SamplePlace
samples_of chunks offsets sizes = map (sample_of chunks offsets sizes) (range_with_len 1 (length sizes))

-- the sample ends behind the end of a file of that size
abbrev pub is_outside : ℕ → SamplePlace → Bool
is_outside file_size sample = nat_lt file_size (sample.from + sample.size)

-- what there is where there is no sample
abbrev pub no_sample : SamplePlace
no_sample = record { size = 0; kind = 0; from = 0 }

-- the sample before which there are so many
abbrev pub sample_at : List SamplePlace → ℕ → SamplePlace
sample_at samples before = slice_index_or samples before no_sample

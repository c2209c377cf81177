-- The tables of chunks, sizes and places as they are written (ISO/IEC 14496-12, 8.7.3 to 8.7.5).
use Rattle.std.specs.Prelude.{◌≡◌, ℕ, ◌+◌, ◌*◌, ◌^◌, ◌<◌, ◌≤◌, Bool, false, ◌&&◌, ◌==◌, List, [], ◌∷◌, map, length, sum, codes, if◌then◌else◌, None}
use Rattle.std.specs.List.{flat_map, list_all, AllByRecursion}
use Rattle.mp_ports.specs.Checks.{first_code}
use Rattle.mp_boxes.specs.declared.field.Field.{Field}
use Rattle.mp_boxes.specs.declared.field.Field.TheVariants.{U32, U64}
use Rattle.mp_boxes.specs.Field.{Part, body_bytes, version_and_flags}
use Rattle.mp_boxes.specs.FullBox.{first_row}
use Rattle.mp_boxes.specs.Table.{table_fields, with_rows}
use Rattle.mp_chunks.specs.declared.chunks.ChunkRun.{ChunkRun}
use Rattle.mp_chunks.specs.declared.push.ChunkHead.{ChunkHead}
use Rattle.mp_chunks.specs.Chunks.{no_run, offset_len}
use Rattle.mp_chunks.specs.Places.{SamplePlace}
use Rattle.mp_chunks.specs.Sizes.{sample_count, size_checks}
use Rattle.mp_chunks.specs.Samples.{Bodies, chunks_fault_of, outside_fault, samples_by}

-- ---- chunks that stand in a file

-- a chunk: its place in the file, the number of the entry of its samples, and the size of each
pub record PlacedChunk : Type 0 where
  pub place : ℕ
  pub entry : ℕ
  pub sizes : List ℕ

-- how many samples it holds, in place of their sizes
abbrev pub head_of : PlacedChunk → ChunkHead
head_of chunk = record { place = chunk.place; samples = length chunk.sizes; entry = chunk.entry }

-- the sizes of all samples
abbrev pub sizes_in : List PlacedChunk → List ℕ
sizes_in chunks = flat_map (λ chunk. chunk.sizes) chunks

-- samples of one entry, one behind the other
abbrev pub samples_from : ℕ → ℕ → List ℕ → List SamplePlace
samples_from place entry [] = []
samples_from place entry (size ∷ sizes) = record { size = size; kind = entry; from = place } ∷ samples_from (place + size) entry sizes

-- the samples of a chunk stand one behind the other from its place on
abbrev pub samples_at : PlacedChunk → List SamplePlace
samples_at chunk = samples_from chunk.place chunk.entry chunk.sizes

-- the samples of all chunks
abbrev pub samples_in : List PlacedChunk → List SamplePlace
samples_in chunks = flat_map samples_at chunks

-- a chunk of such samples can be written, in a file of so many bytes, where there are so many entries
pub record IsWritable (wide : Bool) (entries file_size : ℕ) (chunk : PlacedChunk) : Type 0 where
  pub some : 0 < length chunk.sizes
  pub numbered : 0 < chunk.entry
  pub known : chunk.entry ≤ entries
  pub placed : chunk.place < (if wide then 2 ^ 64 else 2 ^ 32)
  pub sizes : AllByRecursion (λ size. size < 2 ^ 32) chunk.sizes
  pub inside : chunk.place + sum chunk.sizes ≤ file_size

-- and so can all chunks of a track
pub record AreWritable (wide : Bool) (entries file_size : ℕ) (chunks : List PlacedChunk) : Type 0 where
  pub each : AllByRecursion (IsWritable wide entries file_size) chunks
  pub few_samples : length (sizes_in chunks) < 2 ^ 32
  pub few_entries : entries < 2 ^ 32

-- ---- the boxes

-- what a run says holds for the chunk
abbrev pub is_of : ChunkRun → ChunkHead → Bool
is_of run chunk = (run.samples == chunk.samples) && (run.entry == chunk.entry)

-- the run that begins with this chunk
abbrev pub run_from : ℕ → ChunkHead → ChunkRun
run_from number chunk = record { first = number; samples = chunk.samples; entry = chunk.entry }

-- the runs of chunks from this number on, behind a chunk of that run: one for each chunk that holds something else than the one before it
abbrev pub runs_behind : ℕ → ChunkRun → List ChunkHead → List ChunkRun
runs_behind number run [] = []
runs_behind number run (chunk ∷ chunks) =
    if is_of run chunk then runs_behind (number + 1) run chunks
    else run_from number chunk ∷ runs_behind (number + 1) (run_from number chunk) chunks

-- the runs of chunks
unfoldable pub runs_of : List ChunkHead → List ChunkRun
runs_of chunks = runs_behind 1 no_run chunks

-- the row of a run
abbrev pub run_row : ChunkRun → List Field
run_row run = U32 run.first ∷ U32 run.samples ∷ U32 run.entry ∷ []

-- a row for each run
unfoldable pub stsc_body : List ChunkHead → List ℕ
stsc_body chunks = body_bytes (table_fields false (map run_row (runs_of chunks)))

-- the sample to chunk box (8.7.4)
abbrev pub stsc : List ChunkHead → Part
stsc chunks = record { kind = codes "stsc"; body = stsc_body chunks }

-- the size that all samples have, or 0 where there is none, or where it differs
abbrev pub size_of_all : List ℕ → ℕ
size_of_all [] = 0
size_of_all (size ∷ sizes) = if list_all (λ other. other == size) sizes then size else 0

-- the row of a size
abbrev pub size_row : ℕ → List Field
size_row size = U32 size ∷ []

-- a row for each size, where there is none in common
abbrev pub size_rows : List ℕ → List (List Field)
size_rows sizes = if size_of_all sizes == 0 then map size_row sizes else []

-- version and flags, the common size and the number of samples
abbrev pub sizes_front : List ℕ → List Field
sizes_front sizes = version_and_flags false 0 ∷ U32 (size_of_all sizes) ∷ U32 (length sizes) ∷ []

-- these, and then the rows
unfoldable pub stsz_body : List ℕ → List ℕ
stsz_body sizes = body_bytes (with_rows (sizes_front sizes) (size_rows sizes))

-- the sample size box (8.7.3.2)
abbrev pub stsz : List ℕ → Part
stsz sizes = record { kind = codes "stsz"; body = stsz_body sizes }

-- the place of a chunk, in 64 bits or in 32
abbrev pub place_field : Bool → ChunkHead → Field
place_field wide chunk = if wide then U64 chunk.place else U32 chunk.place

-- its row
abbrev pub place_row : Bool → ChunkHead → List Field
place_row wide chunk = place_field wide chunk ∷ []

-- a row for each chunk
unfoldable pub offsets_body : Bool → List ChunkHead → List ℕ
offsets_body wide chunks = body_bytes (table_fields false (map (place_row wide) chunks))

-- the chunk offset box (8.7.5), in 64 bits or in 32
abbrev pub chunk_offsets : Bool → List ChunkHead → Part
chunk_offsets wide chunks = record { kind = if wide then codes "co64" else codes "stco"; body = offsets_body wide chunks }

-- the bodies of the three boxes of some chunks
abbrev pub bodies_in : Bool → List PlacedChunk → Bodies
bodies_in wide chunks = record {
  stsc = stsc_body (map head_of chunks);
  sizes = stsz_body (sizes_in chunks);
  compact = false;
  offsets = offsets_body wide (map head_of chunks);
  wide = wide;
}

-- ---- what is written is read

-- the tables of these chunks have no fault, wherever they stand, and what is read of them are the samples of the chunks
pub record AreReadBack (wide : Bool) (entries file_size : ℕ) (chunks : List PlacedChunk) : Type 0 where
  pub sizes : first_code (size_checks false (stsz_body (sizes_in chunks))) ≡ None
  pub count : sample_count (stsz_body (sizes_in chunks)) ≡ length (sizes_in chunks)
  pub mapped : (stsc_place offsets_place : ℕ) → chunks_fault_of entries stsc_place offsets_place (bodies_in wide chunks) ≡ None
  pub inside : outside_fault file_size (samples_by (bodies_in wide chunks)) ≡ None
  pub samples : samples_by (bodies_in wide chunks) ≡ samples_in chunks

-- chunks that can be written are read back
pub record PlacesAreRead : Type 0 where
  pub each : (wide : Bool) (entries file_size : ℕ) (chunks : List PlacedChunk) → AreWritable wide entries file_size chunks → AreReadBack wide entries file_size chunks

-- a chunk that holds the same, wherever it stands
abbrev pub unplaced : ChunkHead → ChunkHead
unplaced chunk = record { place = 0; samples = chunk.samples; entry = chunk.entry }

-- where chunks stand changes no row of `stsc`; their table of places is as long as they are many
pub record PlacesChangeNoLength : Type 0 where
  pub stsc : (chunks : List ChunkHead) → stsc_body (map unplaced chunks) ≡ stsc_body chunks
  pub offsets : (wide : Bool) (chunks : List ChunkHead) → length (offsets_body wide chunks) ≡ first_row + offset_len wide * length chunks

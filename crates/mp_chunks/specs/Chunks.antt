-- Chunks: where each begins in the file, and what holds for it (ISO/IEC 14496-12, 8.7.4 and 8.7.5). Chunks are numbered from 1.
use Rattle.std.specs.Prelude.{ℕ, zero, suc, Bool, ◌==◌, not, nat_le, nat_lt, if◌then◌else◌, List, [], ◌∷◌, length, map, filter, slice_index_or, Option, Some, None}
use Rattle.std.specs.List.{last_or, range_with_len}
use Rattle.mp_ports.specs.declared.code.Code.{Code}
use Rattle.mp_ports.specs.declared.code.Code.TheVariants.{ChunkMap, EntryIndex}
use Rattle.mp_ports.specs.Checks.{first_code, first_some}
use Rattle.mp_boxes.specs.Number.{u32_at, u64_at}
use Rattle.mp_chunks.specs.declared.chunks.ChunkRun.{ChunkRun}
use Rattle.mp_boxes.specs.FullBox.{table_rows}

-- the length of an offset: 8 bytes in `co64`, 4 in `stco`
abbrev pub offset_len : Bool → ℕ
offset_len wide = if wide then 8 else 4

-- the place of each chunk in the file
unfoldable pub chunk_offsets_of : Bool → List ℕ → List ℕ
chunk_offsets_of wide body = if wide then map (λ row. u64_at row 0) (table_rows 8 body) else map (λ row. u32_at row 0) (table_rows 4 body)

-- the length of a row of `stsc`
abbrev pub run_len : ℕ
run_len = 12

-- the runs of chunks, by `stsc`: from this chunk on, a chunk holds so many samples, of this entry
unfoldable pub stsc_of : List ℕ → List ChunkRun
stsc_of body = map (λ row. record { first = u32_at row 0; samples = u32_at row 4; entry = u32_at row 8 }) (table_rows run_len body)

-- what there is where there is no run: no samples
abbrev pub no_run : ChunkRun
no_run = record { first = 0; samples = 0; entry = 0 }

-- the run before which there are so many
abbrev pub run_at : List ChunkRun → ℕ → ChunkRun
run_at runs before = slice_index_or runs before no_run

-- the first run begins at chunk 1, each other one behind that where the one before it begins
abbrev pub begins : List ChunkRun → ℕ → Bool
begins runs zero = (run_at runs 0).first == 1
begins runs (suc before) = nat_lt (run_at runs before).first (run_at runs (suc before)).first

-- the fault of a run, where there are so many entries
unfoldable pub run_fault : ℕ → List ChunkRun → ℕ → Option Code
run_fault entries runs before =
    first_code
    ((not (begins runs before), ChunkMap)
    ∷ ((run_at runs before).samples == 0, ChunkMap)
    ∷ ((run_at runs before).entry == 0, EntryIndex)
    ∷ (nat_lt entries (run_at runs before).entry, EntryIndex)
    ∷ [])

-- the first fault, run by run
unfoldable pub runs_fault : ℕ → List ChunkRun → Option Code
runs_fault entries runs = first_some (map (run_fault entries runs) (range_with_len 0 (length runs)))

-- what holds for a chunk: the last run whose first chunk is at most this one
unfoldable pub run_of_chunk : List ChunkRun → ℕ → Option ChunkRun
run_of_chunk runs chunk = last_or None (filter (λ run. nat_le run.first chunk) runs)

-- the same, or no run
abbrev pub or_no_run : Option ChunkRun → ChunkRun
or_no_run None = no_run
or_no_run (Some run) = run

-- the runs of so many chunks, chunk by chunk
unfoldable pub runs_of_chunks : List ChunkRun → ℕ → List ChunkRun
runs_of_chunks runs chunks = map (λ chunk. or_no_run (run_of_chunk runs chunk)) (range_with_len 1 chunks)

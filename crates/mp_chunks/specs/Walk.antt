-- Where a walk over the runs of `stsc` and their chunks stands. Whether all runs are in order is known at its end, so what it has placed is right where they are.
use Rattle.std.specs.Prelude.{◌≡◌, ℕ, ◌+◌, ◌-◌, ◌*◌, ◌^◌, ◌<◌, ◌≤◌, min, nat_lt, ◌&&◌, ◌==◌, if◌then◌else◌, Bool, List, length, take, drop, sum, slice_index, false, true, Some, None, Result, Ok, Err}
use Rattle.std.specs.List.{list_any}
use Rattle.mp_columns.specs.declared.columns.TheConstants.{MOST_ITEMS}
use Rattle.mp_ports.specs.declared.fault.Fail.{Fail}
use Rattle.mp_ports.specs.declared.fault.Fail.TheVariants.{Bad as Refused, NoMemory}
use Rattle.mp_ports.specs.Checks.{fault_at, first_code}
use Rattle.mp_boxes.specs.FullBox.{HasRows, table_fault}
use Rattle.mp_chunks.specs.declared.chunks.ChunkRun.{ChunkRun}
use Rattle.mp_chunks.specs.declared.tables.Tables.{Tables}
use Rattle.mp_chunks.specs.declared.places.ChunkSamples.{ChunkSamples}
use Rattle.mp_chunks.specs.declared.walk.Limits.{Limits}
use Rattle.mp_chunks.specs.declared.walk.Walk.{Walk}
use Rattle.mp_chunks.specs.Sizes.{size_checks}
use Rattle.mp_chunks.specs.Chunks.{run_at, run_len, offset_len, runs_fault, runs_of_chunks}
use Rattle.mp_chunks.specs.Places.{SamplePlace, sample_at, is_outside, counts_of}
use Rattle.mp_chunks.specs.Samples.{AreWithin, PlacesRecord, columns_of, stsc_body, sizes_body, offsets_body, sizes, offsets, runs, samples}

-- the first run begins at chunk 1, and each one behind those before it
pub record AreInOrder (runs : List ChunkRun) : Type 0 where
  pub first : 0 < length runs → (run_at runs 0).first ≡ 1
  pub rise : (i j : ℕ) → i < j → j < length runs → (run_at runs i).first < (run_at runs j).first

-- the run before which there are `at` holds for the chunk
pub record IsRunOf (runs : List ChunkRun) (chunk at : ℕ) : Type 0 where
  pub inside : at < length runs
  pub begun : (run_at runs at).first ≤ chunk
  pub next : at + 1 < length runs → chunk < (run_at runs (at + 1)).first

-- how many of the chunks stand before the run before which there are `before`; all stand before the end of the runs
abbrev pub chunks_before : List ChunkRun → ℕ → ℕ → ℕ
chunks_before runs chunks before = if nat_lt before (length runs) then min chunks ((run_at runs before).first - 1) else chunks

-- the tables have no fault of their own, and there are so many runs, chunks and samples
pub record AreRead (tables : Tables) (limits : Limits) : Type 0 where
  pub within : AreWithin tables
  pub stsc_table : table_fault 0 run_len (stsc_body tables) ≡ None
  pub stsc_whole : HasRows run_len (stsc_body tables)
  pub offsets_table : table_fault 0 (offset_len tables.wide) (offsets_body tables) ≡ None
  pub offsets_whole : HasRows (offset_len tables.wide) (offsets_body tables)
  pub sizes_read : first_code (size_checks tables.compact (sizes_body tables)) ≡ None
  pub runs : length (runs tables) ≡ limits.runs
  pub chunks : length (offsets tables) ≡ limits.chunks
  pub samples : length (sizes tables) ≡ limits.samples
  pub few : limits.samples ≤ MOST_ITEMS

-- there are chunks, and no run
abbrev pub lacks_runs : Limits → Bool
lacks_runs limits = nat_lt 0 limits.chunks && (limits.runs == 0)

-- the samples of a chunk: their sizes one behind the other from its place on
pub record IsChunk (tables : Tables) (chunk : ChunkSamples) : Type 0 where
  pub ends : chunk.first + chunk.count ≤ length (sizes tables)
  pub placed : AreInOrder (runs tables) → (i : ℕ) → chunk.first ≤ i → i < chunk.first + chunk.count
      → sample_at (samples tables) i ≡ record { size = slice_index (sizes tables) i; kind = chunk.kind; from = chunk.from + sum (drop chunk.first (take i (sizes tables))) }

-- the first samples are there, and they end in the file
pub record ArePlaced (file_size : ℕ) (samples : List SamplePlace) (n : ℕ) (places : PlacesRecord) : Type 0 where
  pub columns : places ≡ columns_of (take n samples)
  pub inside : (k : ℕ) → k < n → is_outside file_size (sample_at samples k) ≡ false

-- so many are there, and they are the first samples
pub record HasPlaced (tables : Tables) (file_size n : ℕ) (places : PlacesRecord) : Type 0 where
  pub sizes : length places.sizes ≡ n
  pub kinds : length places.kinds ≡ n
  pub placed : AreInOrder (runs tables) → ArePlaced file_size (samples tables) n places

-- so many are there, or a sample is outside
abbrev pub PlacesOrOutside : Tables → ℕ → ℕ → Bool → PlacesRecord → Type 0
PlacesOrOutside tables file_size n false places = HasPlaced tables file_size n places
PlacesOrOutside tables file_size n true places = AreInOrder (runs tables) → list_any (is_outside file_size) (samples tables) ≡ true

-- the walk has gone over the first chunks: it knows how many samples these hold, and has placed them, where there are so many
pub record IsWalked (tables : Tables) (limits : Limits) (walk : Walk) : Type 0 where
  pub inside : walk.chunks ≤ limits.chunks
  pub few : walk.held ≤ walk.chunks * (2 ^ 32 - 1)
  pub held : AreInOrder (runs tables) → walk.held ≡ sum (counts_of (runs_of_chunks (runs tables) walk.chunks))
  pub placed : walk.held ≤ limits.samples → PlacesOrOutside tables limits.file_size walk.held walk.outside walk.places

-- it has gone over the chunks of so many runs
pub record HasWalked (tables : Tables) (limits : Limits) (runs_before : ℕ) (walk : Walk) : Type 0 where
  pub walked : IsWalked tables limits walk
  pub ends : AreInOrder (runs tables) → walk.chunks ≡ chunks_before (runs tables) limits.chunks runs_before

-- it has gone over all runs, and none has a fault
pub record IsDone (tables : Tables) (limits : Limits) (walk : Walk) : Type 0 where
  pub no_fault : runs_fault limits.entries (runs tables) ≡ None
  pub walked : HasWalked tables limits limits.runs walk

-- it does so, or it ends at the first fault, or for want of memory
abbrev pub Walks : Tables → Limits → Walk → Result Unit Fail → Type 0
Walks tables limits walk (Ok done) = IsDone tables limits walk
Walks tables limits walk (Err (Refused bad)) = fault_at tables.stsc.place (runs_fault limits.entries (runs tables)) ≡ Some bad
Walks tables limits walk (Err NoMemory) = Unit

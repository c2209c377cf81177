-- The boxes of chunks have no fault.
use Rattle.std.proofs.Common.{◌≡◌, ℕ, zero, suc, ◌+◌, ◌^◌, ◌<◌, ◌≤◌, Bool, true, false, cond, List, [], ◌∷◌, ◌++◌, length, map, sum, Option, None, refl, sym, ap, ◌∙◌, arith, if◌then◌else◌, ◌==◌}
use Rattle.std.specs.Prelude.{nat_lt, ◌&&◌}
use Rattle.std.specs.List.{list_any, range_with_len, AllByRecursion}
use Rattle.std.proofs.lemmas.Bool.{eq-eqb, le-ltb, lt-ltb, ne_eqb}
use Rattle.std.proofs.lemmas.List.{get_or-map, length-append, length-map}
use Rattle.std.proofs.lemmas.Simd.{map-map}
use Rattle.std.proofs.lemmas.List.Concat.{length-flat_map}
use Rattle.std.proofs.lemmas.List.Folds.{list_any-append}
use Rattle.std.proofs.lemmas.List.Sums.{sum-map, sum_by-cons}
use Rattle.std.proofs.lemmas.Nat.{from_be_bytes-to_be_bytes_4, from_be_bytes-to_be_bytes_8}
use Rattle.mp_ports.specs.Checks.{first_some}
use Rattle.mp_boxes.specs.Number.{u32_at, u64_at}
use Rattle.mp_boxes.specs.Field.{body_bytes}
use Rattle.mp_boxes.specs.FullBox.{table_fault, table_rows}
use Rattle.mp_boxes.specs.Table.{TablesAreRead}
use Rattle.mp_chunks.specs.declared.chunks.ChunkRun.{ChunkRun}
use Rattle.mp_chunks.specs.declared.push.ChunkHead.{ChunkHead}
use Rattle.mp_chunks.specs.Chunks.{begins, no_run, offset_len, chunk_offsets_of, run_at, run_fault, run_len, runs_fault, runs_of_chunks, stsc_of}
use Rattle.mp_chunks.specs.Places.{counts_of, is_outside}
use Rattle.mp_chunks.specs.Samples.{chunks_fault_of, map_fault, outside_fault, samples_by}
use Rattle.mp_chunks.specs.Written.{AreReadBack, AreWritable, IsWritable, PlacedChunk, bodies_in, head_of, is_of, offsets_body, place_row, run_from, run_row, runs_behind, runs_of, samples_at, samples_from, samples_in, sizes_in, stsc_body, stsz_body}
use Rattle.mp_chunks.proofs.MapFaults.{no_fault}
use Rattle.mp_chunks.proofs.RunsAreReadBack.{counts_read, entry_read, no_head}
use Rattle.mp_chunks.proofs.PlacesAreReadBack.{AreOf, no_chunk, samples_read}
use Rattle.mp_chunks.proofs.RowsAreWritten.{twelve_each, wide_each}
use Rattle.mp_chunks.proofs.WrittenSizes.{HasSizes, sizes_read}

-- ---- the runs

-- a run without a fault whose first chunk is this one or a later one, and whose numbers fit 32 bits
record IsSound (entries from : ℕ) (run : ChunkRun) : Type 0 where
  pub rises : from ≤ run.first
  pub some : 0 < run.samples
  pub numbered : 0 < run.entry
  pub known : run.entry ≤ entries
  pub first_fits : run.first < 2 ^ 32
  pub samples_fit : run.samples < 2 ^ 32

-- each begins behind the one before it
abbrev AreSound : ℕ → ℕ → List ChunkRun → Type 0
AreSound entries from [] = Unit {0}
AreSound entries from (run ∷ runs) = IsSound entries from run × AreSound entries (suc run.first) runs

sound_earlier : (entries from later : ℕ) (runs : List ChunkRun) → from ≤ later → AreSound entries later runs → AreSound entries from runs
sound_earlier entries from later [] le sound = tt
sound_earlier entries from later (run ∷ runs) le sound =
    let s = sound.0 in
    (record { rises = omega (arith, s.rises); some = s.some; numbered = s.numbered; known = s.known; first_fits = s.first_fits; samples_fit = s.samples_fit }, sound.1)

-- the chunks of a track, each with some samples of an entry that is there
abbrev Writable : Bool → ℕ → ℕ → List PlacedChunk → Type 0
Writable wide entries file_size chunks = AllByRecursion (IsWritable wide entries file_size) chunks

runs_sound : (wide : Bool) (entries file_size number : ℕ) (run : ChunkRun) (chunks : List PlacedChunk) → 0 < number → Writable wide entries file_size chunks → number + length (sizes_in chunks) ≤ 2 ^ 32
    → AreSound entries number (runs_behind number run (map head_of chunks))
runs_sound wide entries file_size number run [] some each few = tt
runs_sound wide entries file_size number run (chunk ∷ chunks) some each few =
    by (is_of run (head_of chunk)) (λ run. runs_sound wide entries file_size (number + 1) run chunks (omega arith) each.1 (omega (arith, few, each.0.some, long)))
  where
    long : length (sizes_in (chunk ∷ chunks)) ≡ length chunk.sizes + length (sizes_in chunks)
    long = length-append chunk.sizes (sizes_in chunks)

    own : IsSound entries number (run_from number (head_of chunk))
    own = record {
      rises = omega arith;
      some = each.0.some;
      numbered = each.0.numbered;
      known = each.0.known;
      first_fits = omega (arith, few, each.0.some, long);
      samples_fit = omega (arith, few, some, long);
    }

    by : (b : Bool) → ((run : ChunkRun) → AreSound entries (number + 1) (runs_behind (number + 1) run (map head_of chunks)))
        → AreSound entries number (cond b (runs_behind (number + 1) run (map head_of chunks)) (run_from number (head_of chunk) ∷ runs_behind (number + 1) (run_from number (head_of chunk)) (map head_of chunks)))
    by true rest = sound_earlier entries number (number + 1) _ (omega arith) (rest run)
    by false rest = (own, sound_earlier entries (suc number) (number + 1) _ (omega arith) (rest (run_from number (head_of chunk))))

-- ---- the row before which there are so many

sound_at : (entries from k : ℕ) (runs : List ChunkRun) → AreSound entries from runs → k < length runs → IsSound entries from (run_at runs k)
sound_at entries from k [] sound lt = absurd (omega arith)
sound_at entries from zero (run ∷ runs) sound lt = sound.0
sound_at entries from (suc k) (run ∷ runs) sound lt = sound_at entries from k runs (sound_earlier entries from (suc run.first) runs (omega (arith, sound.0.rises)) sound.1) (omega arith)

rise : (entries from k : ℕ) (runs : List ChunkRun) → AreSound entries from runs → suc k < length runs → (run_at runs k).first < (run_at runs (suc k)).first
rise entries from k [] sound lt = absurd (omega arith)
rise entries from zero (run ∷ runs) sound lt = let s = sound_at entries (suc run.first) 0 runs sound.1 (omega arith) in omega (arith, s.rises)
rise entries from (suc k) (run ∷ runs) sound lt = rise entries (suc run.first) k runs sound.1 (omega arith)

begins_well : (entries : ℕ) (runs : List ChunkRun) (k : ℕ) → AreSound entries 1 runs → (0 < length runs → (run_at runs 0).first ≡ 1) → k < length runs → begins runs k ≡ true
begins_well entries runs zero sound first lt = eq-eqb _ 1 (first lt)
begins_well entries runs (suc k) sound first lt = lt-ltb _ _ (rise entries 1 k runs sound lt)

sound_run : (entries : ℕ) (runs : List ChunkRun) (k : ℕ) → AreSound entries 1 runs → (0 < length runs → (run_at runs 0).first ≡ 1) → k < length runs → run_fault entries runs k ≡ None
unfolding run_fault
sound_run entries runs k sound first lt =
    let s = sound_at entries 1 k runs sound lt in
    let some = ne_eqb (run_at runs k).samples 0 (λ e. omega (arith, s.some, e)) in
    let numbered = ne_eqb (run_at runs k).entry 0 (λ e. omega (arith, s.numbered, e)) in
    rw (begins_well entries runs k sound first lt, some, numbered, le-ltb entries (run_at runs k).entry s.known) refl

none_of : {A : Type 0} (fault : ℕ → Option A) (from n : ℕ) → ((k : ℕ) → from ≤ k → k < from + n → fault k ≡ None) → first_some (map fault (range_with_len from n)) ≡ None
none_of fault from zero none = refl
none_of fault from (suc n) none = rw (none from (omega arith) (omega arith)) (none_of fault (from + 1) n (λ k le lt. none k (omega arith) (omega arith)))

sound_runs : (entries : ℕ) (runs : List ChunkRun) → AreSound entries 1 runs → (0 < length runs → (run_at runs 0).first ≡ 1) → runs_fault entries runs ≡ None
unfolding runs_fault
sound_runs entries runs sound first = none_of (run_fault entries runs) 0 (length runs) (λ k le lt. sound_run entries runs k sound first (omega (arith, lt)))

-- ---- the runs of chunks

-- the heads of chunks, and their runs
abbrev heads : List PlacedChunk → List ChunkHead
heads chunks = map head_of chunks

first_run : (wide : Bool) (entries file_size : ℕ) (chunks : List PlacedChunk) → Writable wide entries file_size chunks → 0 < length (runs_of (heads chunks)) → (run_at (runs_of (heads chunks)) 0).first ≡ 1
unfolding runs_of
first_run wide entries file_size [] each some = absurd (omega arith)
first_run wide entries file_size (chunk ∷ chunks) each some = rw (ne_eqb 0 (length chunk.sizes) (λ e. omega (arith, each.0.some, e))) refl

has_runs : (wide : Bool) (entries file_size : ℕ) (chunks : List PlacedChunk) → Writable wide entries file_size chunks → (nat_lt 0 (length (heads chunks)) && (length (runs_of (heads chunks)) == 0)) ≡ false
unfolding runs_of
has_runs wide entries file_size [] each = refl
has_runs wide entries file_size (chunk ∷ chunks) each =
    rw (ne_eqb 0 (length chunk.sizes) (λ e. omega (arith, each.0.some, e)), lt-ltb 0 (suc (length (heads chunks))) (omega arith)) (ne_eqb _ 0 (λ e. omega (arith, e)))

few_runs : (entries from : ℕ) (runs : List ChunkRun) → AreSound entries from runs → from ≤ 2 ^ 32 → from + length runs ≤ 2 ^ 32
few_runs entries from [] sound le = omega arith
few_runs entries from (run ∷ runs) sound le = let s = sound.0 in omega (arith, s.rises, few_runs entries (suc run.first) runs sound.1 (omega (arith, s.first_fits)))

-- ---- the bodies

row_read : (run : ChunkRun) → run.first < 2 ^ 32 → run.samples < 2 ^ 32 → run.entry < 2 ^ 32
    → ◌≡◌ {A = ChunkRun} record { first = u32_at (body_bytes (run_row run)) 0; samples = u32_at (body_bytes (run_row run)) 4; entry = u32_at (body_bytes (run_row run)) 8 } run
unfolding u32_at
row_read run first samples entry =
    λ i. record { first = from_be_bytes-to_be_bytes_4 run.first first i; samples = from_be_bytes-to_be_bytes_4 run.samples samples i; entry = from_be_bytes-to_be_bytes_4 run.entry entry i }

rows_read : (entries from : ℕ) (runs : List ChunkRun) → entries < 2 ^ 32 → AreSound entries from runs
    → map (λ row. record { first = u32_at row 0; samples = u32_at row 4; entry = u32_at row 8 }) (map body_bytes (map run_row runs)) ≡ runs
rows_read entries from [] lt sound = refl
rows_read entries from (run ∷ runs) lt sound =
    let s = sound.0 in
    rw (row_read run s.first_fits s.samples_fit (omega (arith, s.known)), rows_read entries (suc run.first) runs lt sound.1) refl

-- a body without a fault of its table, of which this is read
record IsReadAs {A : Type 0} (width : ℕ) (body : List ℕ) (found wanted : A) : Type 0 where
  pub no_fault : table_fault 0 width body ≡ None
  pub read : found ≡ wanted

stsc_read : TablesAreRead → (entries : ℕ) (chunks : List ChunkHead) → entries < 2 ^ 32 → AreSound entries 1 (runs_of chunks) → IsReadAs run_len (stsc_body chunks) (stsc_of (stsc_body chunks)) (runs_of chunks)
unfolding stsc_body stsc_of
stsc_read tables entries chunks lt sound =
    let runs = runs_of chunks in
    let few : length (map run_row runs) < 2 ^ 32 = omega (arith, length-map runs run_row, few_runs entries 1 runs sound (omega arith)) in
    let table = tables.table 0 12 false (map run_row runs) (twelve_each runs) few (omega arith) in
    record { no_fault = table.fault; read = rw table.rows_are (rows_read entries 1 runs lt sound) }

place_in : (wide : Bool) (chunk : ChunkHead) → chunk.place < (if wide then 2 ^ 64 else 2 ^ 32) → (if wide then u64_at (body_bytes (place_row wide chunk)) 0 else u32_at (body_bytes (place_row wide chunk)) 0) ≡ chunk.place
unfolding u32_at u64_at
place_in true chunk fits = from_be_bytes-to_be_bytes_8 chunk.place fits
place_in false chunk fits = from_be_bytes-to_be_bytes_4 chunk.place fits

places_in : (wide : Bool) (entries file_size : ℕ) (chunks : List PlacedChunk) → Writable wide entries file_size chunks
    → map (λ row. if wide then u64_at row 0 else u32_at row 0) (map body_bytes (map (place_row wide) (heads chunks))) ≡ map (λ chunk. chunk.place) chunks
places_in wide entries file_size [] each = refl
places_in wide entries file_size (chunk ∷ chunks) each = rw (place_in wide (head_of chunk) each.0.placed, places_in wide entries file_size chunks each.1) refl

offsets_read : TablesAreRead → (wide : Bool) (entries file_size : ℕ) (chunks : List PlacedChunk) → Writable wide entries file_size chunks → length chunks < 2 ^ 32
    → IsReadAs (offset_len wide) (offsets_body wide (heads chunks)) (chunk_offsets_of wide (offsets_body wide (heads chunks))) (map (λ chunk. chunk.place) chunks)
unfolding offsets_body chunk_offsets_of
offsets_read tables wide entries file_size chunks each few =
    let rows = map (place_row wide) (heads chunks) in
    let table = tables.table 0 (offset_len wide) false rows (wide_each wide (heads chunks)) (omega (arith, length-map (heads chunks) (place_row wide), length-map chunks head_of)) (omega arith) in
    record { no_fault = table.fault; read = by wide table.rows_are (places_in wide entries file_size chunks each) }
  where
    by : (wide : Bool) → table_rows (offset_len wide) (offsets_body wide (heads chunks)) ≡ map body_bytes (map (place_row wide) (heads chunks))
        → map (λ row. if wide then u64_at row 0 else u32_at row 0) (map body_bytes (map (place_row wide) (heads chunks))) ≡ map (λ chunk. chunk.place) chunks
        → chunk_offsets_of wide (offsets_body wide (heads chunks)) ≡ map (λ chunk. chunk.place) chunks
    by true cut read = ap (map (λ (row : List ℕ). u64_at row 0)) cut ∙ read
    by false cut read = ap (map (λ (row : List ℕ). u32_at row 0)) cut ∙ read

-- ---- the samples

few_chunks : (wide : Bool) (entries file_size : ℕ) (chunks : List PlacedChunk) → Writable wide entries file_size chunks → length chunks ≤ length (sizes_in chunks)
few_chunks wide entries file_size [] each = omega arith
few_chunks wide entries file_size (chunk ∷ chunks) each = omega (arith, each.0.some, length-append chunk.sizes (sizes_in chunks), few_chunks wide entries file_size chunks each.1)

sizes_fit : (wide : Bool) (entries file_size : ℕ) (chunks : List PlacedChunk) → Writable wide entries file_size chunks → AllByRecursion (λ size. size < 2 ^ 32) (sizes_in chunks)
sizes_fit wide entries file_size [] each = tt
sizes_fit wide entries file_size (chunk ∷ chunks) each = both chunk.sizes (sizes_in chunks) each.0.sizes (sizes_fit wide entries file_size chunks each.1)
  where
    both : (xs ys : List ℕ) → AllByRecursion (λ size. size < 2 ^ 32) xs → AllByRecursion (λ size. size < 2 ^ 32) ys → AllByRecursion (λ size. size < 2 ^ 32) (xs ++ ys)
    both [] ys first second = second
    both (x ∷ xs) ys first second = (first.0, both xs ys first.1 second)

inside_chunk : (file_size place entry : ℕ) (sizes : List ℕ) → place + sum sizes ≤ file_size → list_any (is_outside file_size) (samples_from place entry sizes) ≡ false
inside_chunk file_size place entry [] le = refl
inside_chunk file_size place entry (size ∷ sizes) le =
    let more = sum_by-cons (λ (x : ℕ). x) size sizes in
    rw (le-ltb file_size (place + size) (omega (arith, le, more)), inside_chunk file_size (place + size) entry sizes (omega (arith, le, more))) refl

all_inside : (wide : Bool) (entries file_size : ℕ) (chunks : List PlacedChunk) → Writable wide entries file_size chunks → list_any (is_outside file_size) (samples_in chunks) ≡ false
all_inside wide entries file_size [] each = refl
all_inside wide entries file_size (chunk ∷ chunks) each =
    list_any-append (is_outside file_size) (samples_at chunk) (samples_in chunks) ∙ rw (inside_chunk file_size chunk.place chunk.entry chunk.sizes each.0.inside, all_inside wide entries file_size chunks each.1) refl

-- what is read of the runs
abbrev read_runs : List PlacedChunk → List ChunkRun
read_runs chunks = runs_of_chunks (runs_of (heads chunks)) (length (heads chunks))

are_of : (chunks : List PlacedChunk) → AreOf (read_runs chunks) chunks
are_of chunks = record {
  counts = counts_read (heads chunks) ∙ map-map (λ (chunk : ChunkHead). chunk.samples) head_of chunks;
  entries = λ c lt. entry_read (heads chunks) c (omega (arith, lt, length-map chunks head_of)) ∙ ap (λ (chunk : ChunkHead). chunk.entry) (get_or-map head_of chunks c no_chunk no_head lt);
}

-- ---- the law

-- what is read of the boxes of chunks
record IsReadBack (wide : Bool) (entries file_size : ℕ) (chunks : List PlacedChunk) : Type 0 where
  pub sizes : HasSizes (stsz_body (sizes_in chunks)) (sizes_in chunks)
  pub stsc : IsReadAs run_len (stsc_body (heads chunks)) (stsc_of (stsc_body (heads chunks))) (runs_of (heads chunks))
  pub offsets : IsReadAs (offset_len wide) (offsets_body wide (heads chunks)) (chunk_offsets_of wide (offsets_body wide (heads chunks))) (map (λ chunk. chunk.place) chunks)
  pub runs : runs_fault entries (runs_of (heads chunks)) ≡ None

all_sound : (wide : Bool) (entries file_size : ℕ) (chunks : List PlacedChunk) → AreWritable wide entries file_size chunks → AreSound entries 1 (runs_of (heads chunks))
unfolding runs_of
all_sound wide entries file_size chunks are = runs_sound wide entries file_size 1 no_run chunks (omega arith) are.each (omega (arith, are.few_samples))

read_back : TablesAreRead → (wide : Bool) (entries file_size : ℕ) (chunks : List PlacedChunk) → AreWritable wide entries file_size chunks → IsReadBack wide entries file_size chunks
read_back tables wide entries file_size chunks are =
    let sound = all_sound wide entries file_size chunks are in
    record {
      sizes = sizes_read tables (sizes_in chunks) are.few_samples (sizes_fit wide entries file_size chunks are.each);
      stsc = stsc_read tables entries (heads chunks) are.few_entries sound;
      offsets = offsets_read tables wide entries file_size chunks are.each (omega (arith, are.few_samples, few_chunks wide entries file_size chunks are.each));
      runs = sound_runs entries (runs_of (heads chunks)) sound (first_run wide entries file_size chunks are.each);
    }

samples_are_read : (wide : Bool) (entries file_size : ℕ) (chunks : List PlacedChunk) → IsReadBack wide entries file_size chunks → samples_by (bodies_in wide chunks) ≡ samples_in chunks
samples_are_read wide entries file_size chunks back =
    let long : length (map (λ (chunk : PlacedChunk). chunk.place) chunks) ≡ length (heads chunks) = omega (arith, length-map chunks (λ (chunk : PlacedChunk). chunk.place), length-map chunks head_of) in
    rw (back.sizes.read, back.stsc.read, back.offsets.read, long) (samples_read (read_runs chunks) chunks (are_of chunks))

no_chunks_fault : (wide : Bool) (entries file_size : ℕ) (chunks : List PlacedChunk) → AreWritable wide entries file_size chunks → IsReadBack wide entries file_size chunks → (stsc_place offsets_place : ℕ)
    → chunks_fault_of entries stsc_place offsets_place (bodies_in wide chunks) ≡ None
no_chunks_fault wide entries file_size chunks are back stsc_place offsets_place =
    let long : length (map (λ (chunk : PlacedChunk). chunk.place) chunks) ≡ length (heads chunks) = omega (arith, length-map chunks (λ (chunk : PlacedChunk). chunk.place), length-map chunks head_of) in
    let total : sum (counts_of (read_runs chunks)) ≡ length (sizes_in chunks) = ap sum (are_of chunks).counts ∙ (sum-map (λ (chunk : PlacedChunk). length chunk.sizes) chunks ∙ sym (length-flat_map (λ (chunk : PlacedChunk). chunk.sizes) chunks)) in
    let held : map_fault (runs_of (heads chunks)) (length (heads chunks)) (length (sizes_in chunks)) ≡ None = no_fault _ _ _ (has_runs wide entries file_size chunks are.each) total in
    rw (back.stsc.no_fault, back.offsets.no_fault, back.stsc.read, back.runs, back.offsets.read, back.sizes.read, long, held) refl

pub are_read_back : TablesAreRead → (wide : Bool) (entries file_size : ℕ) (chunks : List PlacedChunk) → AreWritable wide entries file_size chunks → AreReadBack wide entries file_size chunks
are_read_back tables wide entries file_size chunks are =
    let back = read_back tables wide entries file_size chunks are in
    let samples = samples_are_read wide entries file_size chunks back in
    record {
      sizes = back.sizes.no_fault;
      count = back.sizes.count;
      mapped = no_chunks_fault wide entries file_size chunks are back;
      inside = ap (outside_fault file_size) samples ∙ rw (all_inside wide entries file_size chunks are.each) refl;
      samples = samples;
    }

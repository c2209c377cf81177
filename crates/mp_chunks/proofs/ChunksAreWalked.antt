-- A walk goes from chunk to chunk: what it has come to is a chunk of the definitions, and what it has placed are its samples.
use Rattle.std.proofs.Common.{◌≡◌, ℕ, ◌+◌, ◌^◌, ◌<◌, ◌≤◌, ◌++◌, Bool, true, false, [], ◌∷◌, length, take, drop, sum, slice_index, pos, refl, sym, ap, subst, ◌∙◌, arith, length-append}
use Rattle.std.specs.List.{list_any}
use Rattle.mp_chunks.specs.declared.chunks.ChunkRun.{ChunkRun}
use Rattle.mp_chunks.specs.declared.tables.Tables.{Tables}
use Rattle.mp_chunks.specs.declared.places.ChunkSamples.{ChunkSamples}
use Rattle.mp_chunks.specs.declared.walk.Limits.{Limits}
use Rattle.mp_chunks.specs.declared.walk.Walk.{Walk}
use Rattle.mp_chunks.specs.Chunks.{or_no_run, run_of_chunk, runs_of_chunks}
use Rattle.mp_chunks.specs.Places.{counts_of, sample_at, no_sample, is_outside}
use Rattle.mp_chunks.specs.Samples.{PlacesRecord, columns_of, sizes, offsets, runs, chunks, samples}
use Rattle.mp_chunks.specs.Walk.{AreInOrder, AreRead, HasPlaced, HasWalked, IsChunk, IsWalked, PlacesOrOutside, lacks_runs}
use Rattle.mp_chunks.proofs.MapFaults.{some_runs}
use Rattle.mp_chunks.proofs.RunsAreFound.{before_first, held_more, held_none}
use Rattle.mp_chunks.proofs.SamplesArePlaced.{any_at, chunks_len, held_at, placed_more, run_of_nth, same_sample, sample_placed, samples_len}

-- the chunk behind those that were walked over
pub next_chunk : (t : Tables) (limits : Limits) (before first : ℕ) (run : ChunkRun) (from : ℕ) → AreRead t limits → before < limits.chunks → (AreInOrder (runs t) → first ≡ sum (counts_of (runs_of_chunks (runs t) before)))
    → (AreInOrder (runs t) → or_no_run (run_of_chunk (runs t) (before + 1)) ≡ run) → first + run.samples ≤ limits.samples → from ≡ slice_index (offsets t) before
    → IsChunk t record { first = first; count = run.samples; kind = run.entry; from = from }
next_chunk t limits before first run from read lt held is_run ends eo =
    let all = length (offsets t) in
    let inside : first + run.samples ≤ length (sizes t) = omega (arith, ends, read.samples) in
    record {
      ends = inside;
      placed = λ order i le less.
          sample_placed (chunks t) (offsets t) (sizes t) before i first run.entry from (omega (arith, chunks_len (runs t) all, read.chunks)) (held_at (runs t) all before (omega (arith, read.chunks)) ∙ sym (held order)) le
          (omega (arith, held order, held_more (runs t) before run (is_run order), held_at (runs t) all (before + 1) (omega (arith, read.chunks)))) (omega (arith, inside))
          (ap (λ (r : ChunkRun). r.entry) (run_of_nth (runs t) all before (omega (arith, read.chunks)) ∙ is_run order)) (sym eo);
    }

-- a sample of the chunk
chunk_sample : (t : Tables) (chunk : ChunkSamples) (i size from : ℕ) → IsChunk t chunk → AreInOrder (runs t) → chunk.first ≤ i → i < chunk.first + chunk.count → size ≡ slice_index (sizes t) i
    → from ≡ chunk.from + sum (drop chunk.first (take i (sizes t))) → sample_at (samples t) i ≡ record { size = size; kind = chunk.kind; from = from }
chunk_sample t chunk i size from is_chunk order le lt es ef = is_chunk.placed order i le lt ∙ same_sample _ _ (sym es) refl (sym ef)

-- ---- samples that were placed

none_placed : (t : Tables) (file_size : ℕ) (places : PlacesRecord) → places ≡ columns_of [] → HasPlaced t file_size 0 places
none_placed t file_size places e = record {
  sizes = ap (λ (p : PlacesRecord). length p.sizes) e;
  kinds = ap (λ (p : PlacesRecord). length p.kinds) e;
  placed = λ order. record { columns = e; inside = λ k lt. absurd (omega arith) };
}

pub sample_more : (t : Tables) (file_size : ℕ) (chunk : ChunkSamples) (i size from : ℕ) (old new : PlacesRecord) → IsChunk t chunk → chunk.first ≤ i → i < chunk.first + chunk.count → size ≡ slice_index (sizes t) i
    → from ≡ chunk.from + sum (drop chunk.first (take i (sizes t))) → is_outside file_size record { size = size; kind = chunk.kind; from = from } ≡ false → HasPlaced t file_size i old
    → new ≡ record { sizes = old.sizes ++ pos size ∷ []; kinds = old.kinds ++ pos chunk.kind ∷ []; from = old.from ++ from ∷ [] } → HasPlaced t file_size (i + 1) new
sample_more t file_size chunk i size from old new is_chunk le lt es ef inside has e = record {
  sizes = ap (λ (p : PlacesRecord). length p.sizes) e ∙ omega (arith, has.sizes, length-append old.sizes (pos size ∷ []));
  kinds = ap (λ (p : PlacesRecord). length p.kinds) e ∙ omega (arith, has.kinds, length-append old.kinds (pos chunk.kind ∷ []));
  placed = λ order.
      placed_more file_size (samples t) i size chunk.kind from old new (has.placed order) (omega (arith, is_chunk.ends, samples_len (chunks t) (offsets t) (sizes t)))
      (chunk_sample t chunk i size from is_chunk order le lt es ef) inside e;
}

pub outside_found : (t : Tables) (file_size : ℕ) (chunk : ChunkSamples) (i size from : ℕ) → IsChunk t chunk → chunk.first ≤ i → i < chunk.first + chunk.count → size ≡ slice_index (sizes t) i
    → from ≡ chunk.from + sum (drop chunk.first (take i (sizes t))) → is_outside file_size record { size = size; kind = chunk.kind; from = from } ≡ true → AreInOrder (runs t) → list_any (is_outside file_size) (samples t) ≡ true
outside_found t file_size chunk i size from is_chunk le lt es ef outside order =
    any_at (is_outside file_size) (samples t) i no_sample (omega (arith, is_chunk.ends, samples_len (chunks t) (offsets t) (sizes t))) (ap (is_outside file_size) (chunk_sample t chunk i size from is_chunk order le lt es ef) ∙ outside)

-- ---- how far the walk has come

pub one_outside : (t : Tables) (file_size n : ℕ) (outside : Bool) (places : PlacesRecord) → outside ≡ true → PlacesOrOutside t file_size n outside places → AreInOrder (runs t) → list_any (is_outside file_size) (samples t) ≡ true
one_outside t file_size n true places e h = h
one_outside t file_size n false places e h = absurd (no_true e)
  where
    no_true : false ≡ true → ⊥
    no_true e = cc

pub none_outside : (t : Tables) (file_size n : ℕ) (outside : Bool) (places : PlacesRecord) → outside ≡ false → PlacesOrOutside t file_size n outside places → HasPlaced t file_size n places
none_outside t file_size n true places e h = absurd (no_false e)
  where
    no_false : true ≡ false → ⊥
    no_false e = cc
none_outside t file_size n false places e h = h

-- a sample that was outside stays so
pub stays_outside : (t : Tables) (file_size n m : ℕ) (outside : Bool) (places other : PlacesRecord) → outside ≡ true → PlacesOrOutside t file_size n outside places → PlacesOrOutside t file_size m outside other
stays_outside t file_size n m outside places other e h = subst (λ (b : Bool). PlacesOrOutside t file_size m b other) (sym e) (one_outside t file_size n outside places e h)

-- before the first run
pub nothing_walked : (t : Tables) (limits : Limits) (walk : Walk) → AreRead t limits → lacks_runs limits ≡ false → walk ≡ record { places = columns_of []; chunks = 0; held = 0; outside = false } → HasWalked t limits 0 walk
nothing_walked t limits walk read some e =
    rw e
    record {
      walked = record {
        inside = omega arith;
        few = omega arith;
        held = λ order. sym (held_none (runs t));
        placed = λ le. none_placed t limits.file_size (columns_of []) refl;
      };
      ends = λ order. before_first (runs t) limits.chunks order (λ there. let one = some_runs limits.chunks limits.runs some there in omega (arith, one, read.runs));
    }

-- one chunk more
pub chunk_more : (t : Tables) (limits : Limits) (old new : Walk) (run : ChunkRun) → old.chunks < limits.chunks → run.samples < 2 ^ 32 → IsWalked t limits old → (AreInOrder (runs t) → or_no_run (run_of_chunk (runs t) (old.chunks + 1)) ≡ run)
    → new.chunks ≡ old.chunks + 1 → new.held ≡ old.held + run.samples → (new.held ≤ limits.samples → PlacesOrOutside t limits.file_size new.held new.outside new.places) → IsWalked t limits new
chunk_more t limits old new run lt few walked is_run ec eh placed = record {
  inside = omega (arith, lt, ec);
  few = omega (arith, walked.few, few, ec, eh);
  held = λ order. omega (arith, walked.held order, held_more (runs t) old.chunks run (is_run order), eh, ap (λ (n : ℕ). sum (counts_of (runs_of_chunks (runs t) n))) ec);
  placed = placed;
}

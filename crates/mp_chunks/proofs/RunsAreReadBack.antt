-- The runs that are written are read as what each chunk holds.
use Rattle.std.proofs.Common.{◌≡◌, ℕ, zero, suc, ◌+◌, ◌<◌, ◌≤◌, Bool, true, false, cond, List, [], ◌∷◌, length, map, filter, get_or, Option, Some, None, refl, sym, ◌∙◌, arith}
use Rattle.std.specs.Prelude.{nat_le}
use Rattle.std.specs.List.{last_or}
use Rattle.std.proofs.lemmas.Bool.{le-leb, lt-leb, eq-eqb, eqb-true, and_parts}
use Rattle.std.proofs.lemmas.List.{get_or-map, length-map, ext_get_or}
use Rattle.mp_chunks.specs.declared.chunks.ChunkRun.{ChunkRun}
use Rattle.mp_chunks.specs.declared.push.ChunkHead.{ChunkHead}
use Rattle.mp_chunks.specs.Chunks.{no_run, or_no_run, run_at, run_of_chunk, runs_of_chunks}
use Rattle.mp_chunks.specs.Places.{counts_of}
use Rattle.mp_chunks.specs.Written.{is_of, run_from, runs_behind, runs_of}
use Rattle.mp_chunks.proofs.SamplesArePlaced.{chunks_len, run_of_nth}

-- the last of these runs that begins with this chunk or before it
abbrev last_at : Option ChunkRun → ℕ → List ChunkRun → Option ChunkRun
last_at found chunk runs = last_or found (filter (λ run. nat_le run.first chunk) runs)

-- the runs of later chunks aren't it
later : (chunks : List ChunkHead) (number chunk : ℕ) (run : ChunkRun) (found : Option ChunkRun) → chunk < number → last_at found chunk (runs_behind number run chunks) ≡ found
later [] number chunk run found lt = refl
later (next ∷ chunks) number chunk run found lt =
    by (is_of run next) (later chunks (number + 1) chunk run found (omega arith)) (later chunks (number + 1) chunk (run_from number next) found (omega arith))
  where
    by : (b : Bool) → last_at found chunk (runs_behind (number + 1) run chunks) ≡ found → last_at found chunk (runs_behind (number + 1) (run_from number next) chunks) ≡ found
        → last_at found chunk (cond b (runs_behind (number + 1) run chunks) (run_from number next ∷ runs_behind (number + 1) (run_from number next) chunks)) ≡ found
    by true same other = same
    by false same other = rw (lt-leb number chunk lt) other

is_own : (number : ℕ) (chunk : ChunkHead) → is_of (run_from number chunk) chunk ≡ true
is_own number chunk = rw (eq-eqb chunk.samples chunk.samples refl, eq-eqb chunk.entry chunk.entry refl) refl

-- the last run, behind a chunk of a run, is that one or the chunk's own
next_at : (next : ChunkHead) (chunks : List ChunkHead) (number chunk : ℕ) (found : Option ChunkRun) (P : Option ChunkRun → Type 0) → number ≤ chunk
    → (is_of (or_no_run found) next ≡ true → P (last_at found chunk (runs_behind (number + 1) (or_no_run found) chunks)))
    → P (last_at (Some (run_from number next)) chunk (runs_behind (number + 1) (run_from number next) chunks))
    → P (last_at found chunk (runs_behind number (or_no_run found) (next ∷ chunks)))
next_at next chunks number chunk found P le = by (is_of (or_no_run found) next) refl
  where
    by : (b : Bool) → is_of (or_no_run found) next ≡ b → (is_of (or_no_run found) next ≡ true → P (last_at found chunk (runs_behind (number + 1) (or_no_run found) chunks)))
        → P (last_at (Some (run_from number next)) chunk (runs_behind (number + 1) (run_from number next) chunks))
        → P (last_at found chunk (cond b (runs_behind (number + 1) (or_no_run found) chunks) (run_from number next ∷ runs_behind (number + 1) (run_from number next) chunks)))
    by true is same other = same is
    by false is same other = rw (le-leb number chunk le) other

-- it is the one that holds for the chunk
holds : (chunks : List ChunkHead) (number k chunk : ℕ) (found : Option ChunkRun) (d : ChunkHead) → k < length chunks → number + k ≡ chunk
    → is_of (or_no_run (last_at found chunk (runs_behind number (or_no_run found) chunks))) (get_or chunks k d) ≡ true
holds [] number k chunk found d lt e = absurd (omega arith)
holds (next ∷ chunks) number zero chunk found d lt e =
    next_at next chunks number chunk found (λ run. is_of (or_no_run run) next ≡ true) (omega arith) (λ is. rw (later chunks (number + 1) chunk (or_no_run found) found (omega arith)) is)
    (rw (later chunks (number + 1) chunk (run_from number next) (Some (run_from number next)) (omega arith)) (is_own number next))
holds (next ∷ chunks) number (suc k) chunk found d lt e =
    next_at next chunks number chunk found (λ run. is_of (or_no_run run) (get_or chunks k d) ≡ true) (omega arith) (λ is. holds chunks (number + 1) k chunk found d (omega arith) (omega arith))
    (holds chunks (number + 1) k chunk (Some (run_from number next)) d (omega arith) (omega arith))

-- the run of a chunk says how many samples it holds, and their entry
pub run_read : (chunks : List ChunkHead) (k chunk : ℕ) (d : ChunkHead) → k < length chunks → 1 + k ≡ chunk → is_of (or_no_run (run_of_chunk (runs_of chunks) chunk)) (get_or chunks k d) ≡ true
unfolding runs_of run_of_chunk
run_read chunks k chunk d lt e = holds chunks 1 k chunk None d lt e

same_count : (run : ChunkRun) (chunk : ChunkHead) → is_of run chunk ≡ true → run.samples ≡ chunk.samples
same_count run chunk is = eqb-true _ _ (and_parts _ _ is).0

same_entry : (run : ChunkRun) (chunk : ChunkHead) → is_of run chunk ≡ true → run.entry ≡ chunk.entry
same_entry run chunk is = eqb-true _ _ (and_parts _ _ is).1

-- ---- chunk by chunk

-- what there is where there is no chunk
abbrev pub no_head : ChunkHead
no_head = record { place = 0; samples = 0; entry = 0 }

chunk_read : (chunks : List ChunkHead) (k : ℕ) → k < length chunks → is_of (run_at (runs_of_chunks (runs_of chunks) (length chunks)) k) (get_or chunks k no_head) ≡ true
chunk_read chunks k lt = rw (run_of_nth (runs_of chunks) (length chunks) k lt) (run_read chunks k (k + 1) no_head lt (omega arith))

-- the entry of the samples of each
pub entry_read : (chunks : List ChunkHead) (k : ℕ) → k < length chunks → (run_at (runs_of_chunks (runs_of chunks) (length chunks)) k).entry ≡ (get_or chunks k no_head).entry
entry_read chunks k lt = same_entry (run_at (runs_of_chunks (runs_of chunks) (length chunks)) k) (get_or chunks k no_head) (chunk_read chunks k lt)

-- how many samples each holds
pub counts_read : (chunks : List ChunkHead) → counts_of (runs_of_chunks (runs_of chunks) (length chunks)) ≡ map (λ chunk. chunk.samples) chunks
counts_read chunks =
    let read = runs_of_chunks (runs_of chunks) (length chunks) in
    let long = chunks_len (runs_of chunks) (length chunks) in
    ext_get_or 0 _ _ (length-map read _ ∙ (long ∙ sym (length-map chunks _)))
    (λ k inside.
    let lt : k < length chunks = omega (arith, length-map read (λ (run : ChunkRun). run.samples), long) in
    get_or-map (λ (run : ChunkRun). run.samples) read k no_run 0 (omega (arith, long)) ∙ (same_count (run_at read k) (get_or chunks k no_head) (chunk_read chunks k lt) ∙ sym (get_or-map (λ (chunk : ChunkHead). chunk.samples) chunks k no_head 0 lt)))

-- There is a sample for each size, of that size; where the chunks have no fault, it is of one of the entries.
use Rattle.std.proofs.Common.{◌≡◌, ℕ, zero, suc, ◌+◌, ◌-◌, ◌<◌, ◌≤◌, Bool, true, false, List, [], ◌∷◌, length, sum, take, get_or, filter, Option, Some, None, refl, ◌∙◌, arith}
use Rattle.std.specs.Prelude.{find, nat_le, not, slice_index, ◌==◌}
use Rattle.std.specs.List.{last_or, range_with_len}
use Rattle.std.proofs.lemmas.Bool.{le-leb}
use Rattle.mp_ports.specs.declared.code.Code.{Code}
use Rattle.mp_ports.specs.declared.fault.Bad.{Bad}
use Rattle.mp_ports.specs.Checks.{fault_at, first_code, first_some}
use Rattle.mp_boxes.specs.FullBox.{table_fault}
use Rattle.mp_chunks.specs.Chunks.{chunk_offsets_of, no_run, offset_len, or_no_run, run_at, run_fault, run_len, run_of_chunk, runs_fault, runs_of_chunks, stsc_of}
use Rattle.mp_chunks.specs.Places.{chunk_of, counts_of, no_sample, or_zero, sample_of, samples_of}
use Rattle.mp_chunks.specs.Sizes.{sizes_of}
use Rattle.mp_chunks.specs.Samples.{Bodies, IsOneOf, TablesGiveSamples, chunks_fault_of, map_fault, samples_by}
use Rattle.mp_chunks.proofs.FirstOfRows.{no_row}
use Rattle.mp_chunks.proofs.MapFaults.{some_runs}
use Rattle.mp_chunks.proofs.RunsAreFound.{held_none, in_order}
use Rattle.mp_chunks.proofs.SamplesArePlaced.{chunks_len, run_of_nth, samples_len, sizes_len}
use Rattle.std.proofs.lemmas.List.FromFn.{get_or-map-range_with_len}
use Rattle.std.proofs.lemmas.List.{length-map}
use Rattle.mp_ports.specs.declared.code.Code.TheVariants.{ChunkMap}

run_kind : (entries : ℕ) (runs : List _) (j : ℕ) → run_fault entries runs j ≡ None → IsOneOf entries (run_at runs j).entry
unfolding run_fault
run_kind entries runs j e = record { some = grind (arith, e); known = grind (arith, e) }

kinds_of_runs : (entries : ℕ) (runs : List _) → runs_fault entries runs ≡ None → (j : ℕ) → j < length runs → IsOneOf entries (run_at runs j).entry
unfolding runs_fault
kinds_of_runs entries runs e j lt = run_kind entries runs j (no_row (run_fault entries runs) (length runs) 0 e j (omega arith) (omega arith))

-- the last of those that pass a test, where there is one
last_is : {A : Type 0} (P : A → Type 0) (test : A → Bool) (d last : A) (xs : List A) → P last → ((j : ℕ) → j < length xs → P (get_or xs j d)) → (x : A) × (last_or (Some last) (filter test xs) ≡ Some x) × P x
last_is P test d last [] p all = (last, refl, p)
last_is P test d last (x ∷ xs) p all =
    by (test x) refl (last_is P test d last xs p (λ j lt. all (suc j) (omega arith))) (last_is P test d x xs (all 0 (omega arith)) (λ j lt. all (suc j) (omega arith)))
  where
    by : (b : Bool) → test x ≡ b → (y : _) × (last_or (Some last) (filter test xs) ≡ Some y) × P y → (y : _) × (last_or (Some x) (filter test xs) ≡ Some y) × P y
        → (y : _) × (last_or (Some last) (filter test (x ∷ xs)) ≡ Some y) × P y
    by true e skipped taken = rw e taken
    by false e skipped taken = rw e skipped

found_kind : (entries : ℕ) (runs : List _) (chunk : ℕ) → 0 < length runs → (run_at runs 0).first ≡ 1 → 1 ≤ chunk → ((j : ℕ) → j < length runs → IsOneOf entries (run_at runs j).entry) → IsOneOf entries (or_no_run (run_of_chunk runs chunk)).entry
unfolding run_of_chunk
found_kind entries [] chunk some first le all = absurd (omega arith)
found_kind entries (run ∷ runs) chunk some first le all =
    let passes : nat_le run.first chunk ≡ true = le-leb _ _ (omega (arith, first, le)) in
    let last = last_is (λ (r : _). IsOneOf entries r.entry) (λ (r : _). nat_le r.first chunk) no_run run runs (all 0 (omega arith)) (λ j lt. all (suc j) (omega arith)) in
    rw (passes, last.1) last.2

find_below : (test : ℕ → Bool) (a n m : ℕ) → find test (range_with_len a n) ≡ Some m → m < a + n
find_below test a zero m e = absurd cc
find_below test a (suc n) m e = by (test a) refl (find_below test (a + 1) n m) e
  where
    by : (b : Bool) → test a ≡ b → (find test (range_with_len (a + 1) n) ≡ Some m → m < a + 1 + n) → find test (range_with_len a (suc n)) ≡ Some m → m < a + suc n
    by true t more e = let is : Some a ≡ Some m = rw t at e in let same : a ≡ m = cc in omega arith
    by false t more e = let is : find test (range_with_len (a + 1) n) ≡ Some m = rw t at e in omega (arith, more is)

same_number : (a b : ℕ) → not (a == b) ≡ false → a ≡ b
same_number a b e = grind arith

chunk_inside : (counts : List ℕ) (sample : ℕ) → 0 < length counts → or_zero (chunk_of counts sample) - 1 < length counts
unfolding chunk_of
chunk_inside counts sample some = by (find (λ chunk. nat_le sample (sum_held chunk)) (range_with_len 1 (length counts))) refl
  where
    sum_held : ℕ → ℕ
    sum_held chunk = sum (take chunk counts)

    by : (o : Option ℕ) → find (λ chunk. nat_le sample (sum_held chunk)) (range_with_len 1 (length counts)) ≡ o → or_zero o - 1 < length counts
    by None e = omega arith
    by (Some m) e = let below = find_below (λ chunk. nat_le sample (sum_held chunk)) 1 (length counts) m e in omega arith

both_pass : (a b : Bool) → first_code ((a, ChunkMap) ∷ (b, ChunkMap) ∷ []) ≡ None → (a ≡ false) × (b ≡ false)
both_pass true b e = absurd cc
both_pass false true e = absurd cc
both_pass false false e = (refl, refl)

some_chunks : (runs : List _) (all samples : ℕ) → sum (counts_of (runs_of_chunks runs all)) ≡ samples → 0 < samples → 0 < all
some_chunks runs zero samples e some = absurd (omega (arith, e, some, held_none runs))
some_chunks runs (suc all) samples e some = omega arith

chunk_kind : (entries : ℕ) (runs : List _) (all k : ℕ) → runs_fault entries runs ≡ None → 0 < length runs → k < all → IsOneOf entries (run_at (runs_of_chunks runs all) k).entry
chunk_kind entries runs all k e some lt =
    rw (run_of_nth runs all k lt) (found_kind entries runs (k + 1) some ((in_order entries runs e).first some) (omega arith) (kinds_of_runs entries runs e))

kind_is_entry : (entries : ℕ) (runs : List _) (offsets sizes : List ℕ) → runs_fault entries runs ≡ None → map_fault runs (length offsets) (length sizes) ≡ None → (i : ℕ) → i < length sizes
    → IsOneOf entries (get_or (samples_of (runs_of_chunks runs (length offsets)) offsets sizes) i no_sample).kind
unfolding samples_of sample_of map_fault
kind_is_entry entries runs offsets sizes e m i lt =
    let all = length offsets in
    let chunks = runs_of_chunks runs all in
    let counts = counts_of chunks in
    let tests = both_pass _ _ m in
    let held : sum counts ≡ length sizes = same_number (sum counts) (length sizes) tests.1 in
    let some_all = some_chunks runs all (length sizes) held (omega (arith, lt)) in
    let some = some_runs all (length runs) tests.0 some_all in
    let len : length counts ≡ all = length-map chunks (λ (chunk : _). chunk.samples) ∙ chunks_len runs all in
    let inside = chunk_inside counts (i + 1) (omega (arith, len, some_all)) in
    rw (get_or-map-range_with_len (sample_of chunks offsets sizes) 1 (length sizes) i (i + 1) no_sample lt (omega arith))
    (chunk_kind entries runs all (or_zero (chunk_of counts (i + 1)) - 1) e some (omega (arith, inside, len)))

size_of : (chunks : List _) (offsets sizes : List ℕ) (i : ℕ) → i < length sizes → (get_or (samples_of chunks offsets sizes) i no_sample).size ≡ slice_index sizes i
unfolding samples_of sample_of
size_of chunks offsets sizes i lt =
    let at : i + 1 - 1 ≡ i = omega arith in
    rw (get_or-map-range_with_len (sample_of chunks offsets sizes) 1 (length sizes) i (i + 1) no_sample lt (omega arith), at) refl

-- where the chunks have no fault, neither the runs have one nor the map
mapped : (place : ℕ) (a b : Option Bad) (runs map : Option Code) → first_some (a ∷ b ∷ fault_at place runs ∷ fault_at place map ∷ []) ≡ None → (runs ≡ None) × (map ≡ None)
mapped place None None None None e = (refl, refl)
mapped place None None None (Some code) e = absurd cc
mapped place None None (Some code) map e = absurd cc
mapped place None (Some bad) runs map e = absurd cc
mapped place (Some bad) b runs map e = absurd cc

entry_of : (entries stsc_place offsets_place : ℕ) (bodies : Bodies) (i : ℕ) → chunks_fault_of entries stsc_place offsets_place bodies ≡ None → i < length (samples_by bodies) → IsOneOf entries (get_or (samples_by bodies) i no_sample).kind
entry_of entries stsc_place offsets_place bodies i e lt =
    let runs = stsc_of bodies.stsc in
    let offsets = chunk_offsets_of bodies.wide bodies.offsets in
    let sizes = sizes_of bodies.compact bodies.sizes in
    let none = mapped stsc_place (fault_at stsc_place (table_fault 0 run_len bodies.stsc)) (fault_at offsets_place (table_fault 0 (offset_len bodies.wide) bodies.offsets)) (runs_fault entries runs) (map_fault runs (length offsets) (length sizes)) e in
    kind_is_entry entries runs offsets sizes none.0 none.1 i (omega (arith, lt, samples_len (runs_of_chunks runs (length offsets)) offsets sizes))

pub tables_give_samples : TablesGiveSamples
tables_give_samples = record {
  sizes = sizes_len;
  count = λ bodies. samples_len _ (chunk_offsets_of bodies.wide bodies.offsets) (sizes_of bodies.compact bodies.sizes);
  size = λ bodies i lt.
      let offsets = chunk_offsets_of bodies.wide bodies.offsets in
      let sizes = sizes_of bodies.compact bodies.sizes in
      size_of (runs_of_chunks (stsc_of bodies.stsc) (length offsets)) offsets sizes i (omega (arith, lt, samples_len (runs_of_chunks (stsc_of bodies.stsc) (length offsets)) offsets sizes));
  entry = entry_of;
}

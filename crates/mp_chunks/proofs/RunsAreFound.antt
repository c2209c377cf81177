-- A walk finds the run of each chunk, and how many samples the chunks hold.
use Rattle.std.proofs.Common.{◌≡◌, ℕ, zero, suc, ◌+◌, ◌-◌, ◌<◌, ◌≤◌, min, Bool, true, false, cond, List, [], ◌∷◌, ◌++◌, length, map, sum, get_or, Option, Some, None, refl, ap, ◌∙◌, arith, inl, inr, filter}
use Rattle.std.specs.Prelude.{nat_le}
use Rattle.std.specs.List.{last_or, range_with_len}
use Rattle.std.proofs.lemmas.Bool.{cases_lt, le-leb, le-ltb, lt-leb, lt-ltb}
use Rattle.std.proofs.lemmas.List.{map-append}
use Rattle.std.proofs.lemmas.List.FromFn.{map-range_with_len_more}
use Rattle.std.proofs.lemmas.List.Sums.{sum_by_push}
use Rattle.mp_chunks.specs.declared.chunks.ChunkRun.{ChunkRun}
use Rattle.mp_chunks.specs.Chunks.{begins, no_run, or_no_run, run_at, run_fault, runs_fault, run_of_chunk, runs_of_chunks}
use Rattle.mp_chunks.specs.Places.{counts_of}
use Rattle.mp_chunks.specs.Walk.{AreInOrder, IsRunOf, chunks_before}
use Rattle.mp_chunks.proofs.FirstOfRows.{no_row}

-- ---- without a fault the runs are in order

run_begins : (entries : ℕ) (runs : List ChunkRun) (j : ℕ) → run_fault entries runs j ≡ None → begins runs j ≡ true
unfolding run_fault
run_begins entries runs j h = grind arith

begun_first : (runs : List ChunkRun) → begins runs 0 ≡ true → (run_at runs 0).first ≡ 1
begun_first runs h = grind arith

begun_later : (runs : List ChunkRun) (j : ℕ) → begins runs (suc j) ≡ true → (run_at runs j).first < (run_at runs (suc j)).first
begun_later runs j h = grind arith

rise : (runs : List ChunkRun) → ((k : ℕ) → k < length runs → begins runs k ≡ true) → (i j : ℕ) → i < j → j < length runs → (run_at runs i).first < (run_at runs j).first
rise runs all i zero lt h = absurd (omega arith)
rise runs all i (suc j) lt h =
    let step = begun_later runs j (all (suc j) h) in
    elim (cases_lt i j) [
      | inl less ↦ omega (arith, step, rise runs all i j less (omega arith))
      | inr last ↦ let e : i ≡ j = omega arith in rw e step
    ]

pub in_order : (entries : ℕ) (runs : List ChunkRun) → runs_fault entries runs ≡ None → AreInOrder runs
unfolding runs_fault
in_order entries runs h =
    let all = λ (k : ℕ) (lt : k < length runs). run_begins entries runs k (no_row (run_fault entries runs) (length runs) 0 h k (omega arith) (omega arith)) in
    record { first = λ some. begun_first runs (all 0 some); rise = rise runs all }

-- ---- the last item that passes a test

filter_none : {A : Type 0} (p : A → Bool) (d : A) (xs : List A) → ((k : ℕ) → k < length xs → p (get_or xs k d) ≡ false) → filter p xs ≡ []
filter_none p d [] none = refl
filter_none p d (x ∷ xs) none = rw (none 0 (omega arith)) (filter_none p d xs (λ k lt. none (suc k) (omega arith)))

last_of_both : {A : Type 0} (b : Bool) (x : A) (ys : List A) (o v : Option A) → ((q : Option A) → last_or q ys ≡ v) → last_or o (cond b (x ∷ ys) ys) ≡ v
last_of_both true x ys o v h = h (Some x)
last_of_both false x ys o v h = h o

last_filter : {A : Type 0} (p : A → Bool) (d : A) (xs : List A) (j : ℕ) (o : Option A) → j < length xs → p (get_or xs j d) ≡ true → ((k : ℕ) → j < k → k < length xs → p (get_or xs k d) ≡ false)
    → last_or o (filter p xs) ≡ Some (get_or xs j d)
last_filter p d [] j o lt here later = absurd (omega arith)
last_filter p d (x ∷ xs) zero o lt here later = rw (here, filter_none p d xs (λ k h. later (suc k) (omega arith) (omega arith))) refl
last_filter p d (x ∷ xs) (suc j) o lt here later =
    last_of_both (p x) x (filter p xs) o (Some (get_or xs j d)) (λ q. last_filter p d xs j q (omega arith) here (λ k h l. later (suc k) (omega arith) (omega arith)))

pub run_found : (runs : List ChunkRun) (chunk at : ℕ) → AreInOrder runs → IsRunOf runs chunk at → run_of_chunk runs chunk ≡ Some (run_at runs at)
unfolding run_of_chunk
run_found runs chunk at order run =
    last_filter (λ (r : ChunkRun). nat_le r.first chunk) no_run runs at None run.inside (le-leb _ _ run.begun) (λ k later inside. lt-leb _ _ (behind k later inside))
  where
    behind : (k : ℕ) → at < k → k < length runs → chunk < (run_at runs k).first
    behind k later inside = elim (cases_lt (at + 1) k) [
      | inl far ↦ omega (arith, order.rise (at + 1) k far inside, run.next (omega arith))
      | inr next ↦ let e : k ≡ at + 1 = omega arith in rw e (run.next (omega arith))
    ]

-- ---- one chunk more

one_chunk_more : (runs : List ChunkRun) (n : ℕ) (run : ChunkRun) → or_no_run (run_of_chunk runs (n + 1)) ≡ run → runs_of_chunks runs (n + 1) ≡ runs_of_chunks runs n ++ run ∷ []
unfolding runs_of_chunks
one_chunk_more runs n run e =
    map-range_with_len_more (λ (chunk : ℕ). or_no_run (run_of_chunk runs chunk)) 1 n (n + 1) (omega arith) ∙ ap (λ (r : ChunkRun). map (λ (chunk : ℕ). or_no_run (run_of_chunk runs chunk)) (range_with_len 1 n) ++ (r ∷ [])) e

pub held_more : (runs : List ChunkRun) (n : ℕ) (run : ChunkRun) → or_no_run (run_of_chunk runs (n + 1)) ≡ run → sum (counts_of (runs_of_chunks runs (n + 1))) ≡ sum (counts_of (runs_of_chunks runs n)) + run.samples
held_more runs n run e =
    ap (λ (chunks : List ChunkRun). sum (counts_of chunks)) (one_chunk_more runs n run e)
    ∙ (ap sum (map-append (λ (chunk : ChunkRun). chunk.samples) (runs_of_chunks runs n) (run ∷ [])) ∙ sum_by_push (λ (x : ℕ). x) (counts_of (runs_of_chunks runs n)) run.samples)

pub held_none : (runs : List ChunkRun) → sum (counts_of (runs_of_chunks runs 0)) ≡ 0
unfolding runs_of_chunks
held_none runs = refl

-- ---- the chunks before a run

before_run : (runs : List ChunkRun) (all at : ℕ) → at < length runs → chunks_before runs all at ≡ min all ((run_at runs at).first - 1)
before_run runs all at lt = rw (lt-ltb at (length runs) lt) refl

pub before_end : (runs : List ChunkRun) (all at : ℕ) → length runs ≤ at → chunks_before runs all at ≡ all
before_end runs all at le = rw (le-ltb at (length runs) le) refl

-- none stands before the first run
pub before_first : (runs : List ChunkRun) (all : ℕ) → AreInOrder runs → (0 < all → 0 < length runs) → 0 ≡ chunks_before runs all 0
before_first runs all order some = elim (cases_lt 0 (length runs)) [
  | inl there ↦ let e = before_run runs all 0 there in let one = order.first there in omega arith
  | inr none ↦ let e = before_end runs all 0 none in grind arith
]

-- a chunk behind those before the run, and before those before the next one
pub run_holds : (runs : List ChunkRun) (all n at : ℕ) → AreInOrder runs → at < length runs → chunks_before runs all at ≤ n → n < chunks_before runs all (at + 1) → n < all → IsRunOf runs (n + 1) at
run_holds runs all n at order inside le lt less = record {
  inside = inside;
  begun = let e = before_run runs all at inside in omega arith;
  next = λ more. let e = before_run runs all (at + 1) more in omega arith;
}

-- at most all of them
pub before_within : (runs : List ChunkRun) (all at : ℕ) → chunks_before runs all at ≤ all
before_within runs all at = elim (cases_lt at (length runs)) [
  | inl there ↦ let e = before_run runs all at there in omega arith
  | inr none ↦ let e = before_end runs all at none in omega arith
]

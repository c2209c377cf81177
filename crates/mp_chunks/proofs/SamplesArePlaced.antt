-- The chunk that a walk has come to is the least one that holds its samples, and they lie in it one behind the other.
use Rattle.std.proofs.Common.{◌≡◌, ℕ, zero, suc, ◌+◌, ◌-◌, ◌*◌, ◌/◌, ◌<◌, ◌≤◌, Bool, true, false, ◌++◌, List, [], ◌∷◌, length, map, take, drop, sum, get_or, slice_index, Some, None, pos, refl, sym, ap, ◌∙◌, arith, inl, inr}
use Rattle.std.specs.Prelude.{nat_le, find, if◌then◌else◌, ◌==◌, ◌||◌}
use Rattle.std.specs.List.{range_with_len, list_any}
use Rattle.std.proofs.lemmas.Bool.{cases_lt, le-leb, lt-leb}
use Rattle.std.proofs.lemmas.List.{take-map, take-take, take_more, map-append, length-map, length-take, length-drop, length-replicate}
use Rattle.std.proofs.lemmas.List.FromFn.{take-map-range_with_len, get_or-map-range_with_len, length-map-range_with_len}
use Rattle.std.proofs.lemmas.List.Sums.{sum_by-take-le, sum_by-take-drop, sum_by_more}
use Rattle.mp_ports.specs.Checks.{first_code}
use Rattle.mp_chunks.specs.declared.chunks.ChunkRun.{ChunkRun}
use Rattle.mp_chunks.specs.Sizes.{sample_count, common_size, field_bits, halves, stsz_of, stz2_of, sizes_of, size_checks, stz2_checks}
use Rattle.mp_chunks.specs.Chunks.{no_run, or_no_run, run_at, run_of_chunk, runs_of_chunks}
use Rattle.mp_chunks.specs.Places.{SamplePlace, counts_of, held, chunk_of, sample_of, samples_of, sample_at, no_sample, is_outside}
use Rattle.mp_chunks.specs.Samples.{PlacesRecord, columns_of}
use Rattle.mp_chunks.specs.Walk.{ArePlaced}
use Rattle.mp_chunks.proofs.RowsAreRead.{length-map-rows_of}

-- ---- the number of sizes

either_len : (b : Bool) (xs ys : List ℕ) (n : ℕ) → (b ≡ true → length xs ≡ n) → (b ≡ false → length ys ≡ n) → length (if b then xs else ys) ≡ n
either_len true xs ys n first second = first refl
either_len false xs ys n first second = second refl

stsz_len : (body : List ℕ) → length (stsz_of body) ≡ sample_count body
unfolding stsz_of
stsz_len body =
    either_len (common_size body == 0) _ _ (sample_count body) (λ own. length-map-rows_of _ (sample_count body) 4 (drop 12 body)) (λ same. length-replicate (sample_count body) (common_size body))

length-halves : (bytes : List ℕ) → length (halves bytes) ≡ 2 * length bytes
length-halves [] = refl
length-halves (b ∷ bytes) = let r = length-halves bytes in omega (arith, r)

same_number : (a b : ℕ) → (a == b) ≡ true → a ≡ b
same_number a b h = grind arith

stz2_fits : (body : List ℕ) (bits : ℕ) → field_bits body ≡ bits → first_code (stz2_checks body) ≡ None → 12 + (bits * sample_count body + 7) / 8 ≤ length body
stz2_fits body bits e h = rw (← e) (grind arith)

stz2_len : (body : List ℕ) → first_code (stz2_checks body) ≡ None → length (stz2_of body) ≡ sample_count body
unfolding stz2_of
stz2_len body h =
    either_len (field_bits body == 4) _ _ (sample_count body)
    (λ four. omega (arith, length-take (sample_count body) (halves (drop 12 body)), length-halves (drop 12 body), length-drop 12 body, stz2_fits body 4 (same_number _ _ four) h))
    (λ other.
    either_len (field_bits body == 8) _ _ (sample_count body)
    (λ eight. omega (arith, length-take (sample_count body) (drop 12 body), length-drop 12 body, stz2_fits body 8 (same_number _ _ eight) h))
    (λ last. length-map-rows_of _ (sample_count body) 2 (drop 12 body)))

pub sizes_len : (compact : Bool) (body : List ℕ) → first_code (size_checks compact body) ≡ None → length (sizes_of compact body) ≡ sample_count body
sizes_len true body h = stz2_len body h
sizes_len false body h = stsz_len body

-- ---- the least chunk

find_first : (p : ℕ → Bool) (a n k m : ℕ) → k < n → a + k ≡ m → p m ≡ true → ((d : ℕ) → a ≤ d → d < m → p d ≡ false) → find p (range_with_len a n) ≡ Some m
find_first p a zero k m lt e here before = absurd (omega arith)
find_first p a (suc n) zero m lt e here before = let same : a ≡ m = omega arith in rw same (rw here refl)
find_first p a (suc n) (suc k) m lt e here before = rw (before a (omega arith) (omega arith)) (find_first p (a + 1) n k m (omega arith) (omega arith) here (λ d le. before d (omega arith)))

held_rises : (counts : List ℕ) (d c : ℕ) → d ≤ c → held counts d ≤ held counts c
held_rises counts d c le = omega (arith, sum_by-take-le (λ x. x) (take c counts) d, ap sum (take-take d c counts le))

in_chunk : (counts : List ℕ) (c i : ℕ) → c < length counts → held counts c ≤ i → i < held counts (c + 1) → chunk_of counts (i + 1) ≡ Some (c + 1)
unfolding chunk_of
in_chunk counts c i lt le less =
    find_first (λ (chunk : ℕ). nat_le (i + 1) (held counts chunk)) 1 (length counts) c (c + 1) lt (omega arith) (le-leb (i + 1) (held counts (c + 1)) (omega arith))
    (λ d some before. lt-leb (i + 1) (held counts d) (let rises = held_rises counts d c (omega arith) in omega arith))

-- ---- a sample in its chunk

pub same_sample : (sample other : SamplePlace) → sample.size ≡ other.size → sample.kind ≡ other.kind → sample.from ≡ other.from → sample ≡ other
same_sample sample other p q r = λ i. record { size = p i; kind = q i; from = r i }

sample_is : (chunks : List ChunkRun) (offsets sizes : List ℕ) (c i : ℕ) → chunk_of (counts_of chunks) (i + 1) ≡ Some (c + 1)
    → sample_of chunks offsets sizes (i + 1) ≡ record { size = slice_index sizes i; kind = (run_at chunks c).entry; from = slice_index offsets c + sum (drop (held (counts_of chunks) c) (take i sizes)) }
unfolding sample_of
sample_is chunks offsets sizes c i e =
    let a : i + 1 - 1 ≡ i = omega arith in
    let b : c + 1 - 1 ≡ c = omega arith in
    rw e
    (same_sample _ _ (ap (slice_index sizes) a) (ap (λ (n : ℕ). (run_at chunks n).entry) b)
    (ap (λ (n : ℕ). slice_index offsets n + sum (drop (held (counts_of chunks) n) (take (i + 1 - 1) sizes))) b ∙ ap (λ (m : ℕ). slice_index offsets c + sum (drop (held (counts_of chunks) c) (take m sizes))) a))

pub sample_placed : (chunks : List ChunkRun) (offsets sizes : List ℕ) (c i first kind from : ℕ) → c < length chunks → held (counts_of chunks) c ≡ first → first ≤ i → i < held (counts_of chunks) (c + 1) → i < length sizes
    → (run_at chunks c).entry ≡ kind → slice_index offsets c ≡ from
    → sample_at (samples_of chunks offsets sizes) i ≡ record { size = slice_index sizes i; kind = kind; from = from + sum (drop first (take i sizes)) }
unfolding samples_of
sample_placed chunks offsets sizes c i first kind from lt ef le less inside ek eo =
    get_or-map-range_with_len (sample_of chunks offsets sizes) 1 (length sizes) i (i + 1) no_sample inside (omega arith)
    ∙ (sample_is chunks offsets sizes c i (in_chunk (counts_of chunks) c i (omega (arith, length-map chunks (λ (chunk : ChunkRun). chunk.samples))) (omega arith) less)
    ∙ same_sample _ _ refl ek (ap (λ (n : ℕ). n + sum (drop (held (counts_of chunks) c) (take i sizes))) eo ∙ ap (λ (n : ℕ). from + sum (drop n (take i sizes))) ef))

pub samples_len : (chunks : List ChunkRun) (offsets sizes : List ℕ) → length (samples_of chunks offsets sizes) ≡ length sizes
unfolding samples_of
samples_len chunks offsets sizes = length-map-range_with_len (sample_of chunks offsets sizes) 1 (length sizes)

-- the sizes of the earlier samples, with one more
pub part_more : (first i : ℕ) (sizes : List ℕ) → first ≤ i → i < length sizes → sum (drop first (take (i + 1) sizes)) ≡ sum (drop first (take i sizes)) + slice_index sizes i
part_more first i sizes le lt =
    omega (
      arith,
      sum_by-take-drop (λ x. x) (take (i + 1) sizes) first,
      sum_by-take-drop (λ x. x) (take i sizes) first,
      ap sum (take-take first (i + 1) sizes (omega arith)),
      ap sum (take-take first i sizes le),
      sum_by_more (λ x. x) sizes i 0 lt,
    )

-- ---- the chunks before

pub held_at : (runs : List ChunkRun) (all n : ℕ) → n ≤ all → held (counts_of (runs_of_chunks runs all)) n ≡ sum (counts_of (runs_of_chunks runs n))
unfolding runs_of_chunks
held_at runs all n le =
    ap sum (take-map (λ (chunk : ChunkRun). chunk.samples) n (map (λ (chunk : ℕ). or_no_run (run_of_chunk runs chunk)) (range_with_len 1 all)) ∙ ap counts_of (take-map-range_with_len (λ (chunk : ℕ). or_no_run (run_of_chunk runs chunk)) 1 all n le))

pub run_of_nth : (runs : List ChunkRun) (all c : ℕ) → c < all → run_at (runs_of_chunks runs all) c ≡ or_no_run (run_of_chunk runs (c + 1))
unfolding runs_of_chunks
run_of_nth runs all c lt = get_or-map-range_with_len (λ (chunk : ℕ). or_no_run (run_of_chunk runs chunk)) 1 all c (c + 1) no_run lt (omega arith)

pub chunks_len : (runs : List ChunkRun) (all : ℕ) → length (runs_of_chunks runs all) ≡ all
unfolding runs_of_chunks
chunks_len runs all = length-map-range_with_len (λ (chunk : ℕ). or_no_run (run_of_chunk runs chunk)) 1 all

-- ---- samples that were placed

columns_more : (samples : List SamplePlace) (i : ℕ) → i < length samples
    → columns_of (take (i + 1) samples)
    ≡ record {
      sizes = map (λ sample. pos sample.size) (take i samples) ++ pos (sample_at samples i).size ∷ [];
      kinds = map (λ sample. pos sample.kind) (take i samples) ++ pos (sample_at samples i).kind ∷ [];
      from = map (λ sample. sample.from) (take i samples) ++ (sample_at samples i).from ∷ [];
    }
columns_more samples i lt =
    ap columns_of (take_more samples i no_sample lt)
    ∙ (λ j. record {
      sizes = map-append (λ (sample : SamplePlace). pos sample.size) (take i samples) (sample_at samples i ∷ []) j;
      kinds = map-append (λ (sample : SamplePlace). pos sample.kind) (take i samples) (sample_at samples i ∷ []) j;
      from = map-append (λ (sample : SamplePlace). sample.from) (take i samples) (sample_at samples i ∷ []) j;
    })

-- one sample more
pub placed_more : (file_size : ℕ) (samples : List SamplePlace) (i size kind from : ℕ) (old new : PlacesRecord) → ArePlaced file_size samples i old → i < length samples
    → sample_at samples i ≡ record { size = size; kind = kind; from = from } → is_outside file_size record { size = size; kind = kind; from = from } ≡ false
    → new ≡ record { sizes = old.sizes ++ pos size ∷ []; kinds = old.kinds ++ pos kind ∷ []; from = old.from ++ from ∷ [] } → ArePlaced file_size samples (i + 1) new
placed_more file_size samples i size kind from old new placed lt e inside n = record {
  columns = n
      ∙ (ap (λ (p : PlacesRecord). record { sizes = p.sizes ++ pos size ∷ []; kinds = p.kinds ++ pos kind ∷ []; from = p.from ++ from ∷ [] }) placed.columns
      ∙ (ap (λ (s : SamplePlace). record { sizes = map (λ sample. pos sample.size) (take i samples) ++ pos s.size ∷ []; kinds = map (λ sample. pos sample.kind) (take i samples) ++ pos s.kind ∷ []; from = map (λ sample. sample.from) (take i samples) ++ s.from ∷ [] }) (sym e)
      ∙ sym (columns_more samples i lt)));
  inside = λ k less. elim (cases_lt k i) [
    | inl before ↦ placed.inside k before
    | inr here ↦ let same : k ≡ i = omega arith in rw same (ap (is_outside file_size) e ∙ inside)
  ];
}

-- ---- a sample that is outside, and none

pub any_at : {A : Type 0} (p : A → Bool) (xs : List A) (i : ℕ) (d : A) → i < length xs → p (get_or xs i d) ≡ true → list_any p xs ≡ true
any_at p [] i d lt h = absurd (omega arith)
any_at p (x ∷ xs) zero d lt h = rw h refl
any_at p (x ∷ xs) (suc i) d lt h = or_true (p x) (list_any p xs) (any_at p xs i d (omega arith) h)
  where
    or_true : (a b : Bool) → b ≡ true → (a || b) ≡ true
    or_true true b e = refl
    or_true false b e = e

pub any_none : {A : Type 0} (p : A → Bool) (xs : List A) (d : A) → ((k : ℕ) → k < length xs → p (get_or xs k d) ≡ false) → list_any p xs ≡ false
any_none p [] d none = refl
any_none p (x ∷ xs) d none = rw (none 0 (omega arith)) (any_none p xs d (λ k lt. none (suc k) (omega arith)))

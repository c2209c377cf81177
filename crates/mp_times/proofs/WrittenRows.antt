-- What is read of a table is what was written into it.
use Rattle.std.proofs.Common.{◌≡◌, ℕ, suc, ◌-◌, ◌^◌, ◌<◌, ◌≤◌, Bool, true, false, cond, List, [], ◌∷◌, ◌++◌, length, replicate, map, ℤ, pos, None, Ok, inl, inr, refl, sym, ap, ◌∙◌, arith, rules}
use Rattle.std.specs.Prelude.{negsuc, FitsSigned, All, not}
use Rattle.std.specs.List.{flat_map, list_all, AllByRecursion}
use Rattle.std.specs.Int.{w32, cast_unsigned, cast_signed, FitsUnsigned}
use Rattle.std.specs.Ordering.{int_eq}
use Rattle.std.proofs.lemmas.Bool.{and_parts, le-leb, leb-true, false≢true}
use Rattle.std.proofs.lemmas.Bool.Decides.{Decides-int_eq}
use Rattle.std.proofs.lemmas.List.{length-map}
use Rattle.std.proofs.lemmas.Nat.{from_be_bytes-to_be_bytes_4}
use Rattle.std.proofs.lemmas.Int.{ints, to_z-of_z}
use Rattle.std.proofs.Math.Facts.{Fits-of_z}
use Rattle.mp_boxes.specs.Number.{u32_at}
use Rattle.mp_boxes.specs.Field.{body_bytes}
use Rattle.mp_boxes.specs.FullBox.{version, table_rows, table_fault}
use Rattle.mp_boxes.specs.Table.{HasWidth, TablesAreRead}
use Rattle.mp_times.specs.Times.{offset, per_sample, stts_of, ctts_of}
use Rattle.mp_columns.specs.Stretch.{Stretch, items_of, count_of, in_front}
use Rattle.mp_columns.specs.Runs.{runs}
use Rattle.mp_times.specs.Written.{FitOffsets, are_signed, is_unsigned, run_row, runs_body}

-- ---- runs

-- the bytes of a run
unfoldable pub run_text : Stretch ℤ → List ℕ
run_text run = body_bytes (run_row run)

count_read : (run : Stretch ℤ) → count_of run < 2 ^ 32 → u32_at (run_text run) 0 ≡ count_of run
unfolding run_text u32_at
count_read run fits = from_be_bytes-to_be_bytes_4 (count_of run) fits

value_read : (run : Stretch ℤ) → cast_unsigned w32 run.first < 2 ^ 32 → u32_at (run_text run) 4 ≡ cast_unsigned w32 run.first
unfolding run_text u32_at
value_read run fits = from_be_bytes-to_be_bytes_4 (cast_unsigned w32 run.first) fits

-- 32 bits keep a value
pub record IsKept (value : ℕ → ℤ) (x : ℤ) : Type 0 where
  pub fits : cast_unsigned w32 x < 2 ^ 32
  pub kept : value (cast_unsigned w32 x) ≡ x

-- a run of at most so many values, which are kept
pub record IsWithin (value : ℕ → ℤ) (most : ℕ) (run : Stretch ℤ) : Type 0 where
  pub count : count_of run ≤ most
  pub first : IsKept value run.first

within_more : (value : ℕ → ℤ) (most : ℕ) (runs : List (Stretch ℤ)) → AllByRecursion (IsWithin value most) runs → AllByRecursion (IsWithin value (suc most)) runs
within_more value most [] h = tt
within_more value most (run ∷ runs) h = (record { count = let c = h.0.count in omega arith; first = h.0.first }, within_more value most runs h.1)

within-in_front : (value : ℕ → ℤ) (most : ℕ) (x : ℤ) (runs : List (Stretch ℤ)) → IsKept value x → AllByRecursion (IsWithin value most) runs → AllByRecursion (IsWithin value (suc most)) (in_front int_eq x runs)
within-in_front value most x [] kept h = (record { count = omega arith; first = kept }, tt)
within-in_front value most x (run ∷ runs) kept h = by (int_eq x run.first)
  where
    by : (b : Bool) → AllByRecursion (IsWithin value (suc most)) (cond b (record { first = x; others = items_of run } ∷ runs) (record { first = x; others = [] } ∷ run ∷ runs))
    by true = (record { count = let c = h.0.count in omega arith; first = kept }, within_more value most runs h.1)
    by false = (record { count = omega arith; first = kept }, within_more value most (run ∷ runs) h)

within-runs : (value : ℕ → ℤ) (xs : List ℤ) → AllByRecursion (IsKept value) xs → AllByRecursion (IsWithin value (length xs)) (runs xs)
within-runs value [] kept = tt
within-runs value (x ∷ xs) kept = within-in_front value (length xs) x (runs xs) kept.0 (within-runs value xs kept.1)

-- so many times the first
abbrev copies : Stretch ℤ → List ℤ
copies run = replicate (count_of run) run.first

copies-in_front : (x : ℤ) (runs : List (Stretch ℤ)) → flat_map copies (in_front int_eq x runs) ≡ x ∷ flat_map copies runs
copies-in_front x [] = refl
copies-in_front x (run ∷ runs) = by (int_eq x run.first) refl
  where
    by : (b : Bool) → int_eq x run.first ≡ b
        → flat_map copies (cond b (record { first = x; others = items_of run } ∷ runs) (record { first = x; others = [] } ∷ run ∷ runs)) ≡ x ∷ flat_map copies (run ∷ runs)
    by true e = let same : x ≡ run.first = search (rules, Decides-int_eq x run.first) in ap (λ (y : ℤ). x ∷ (replicate (count_of run) y ++ flat_map copies runs)) same
    by false e = refl

copies-runs : (xs : List ℤ) → flat_map copies (runs xs) ≡ xs
copies-runs [] = refl
copies-runs (x ∷ xs) = copies-in_front x (runs xs) ∙ ap (λ (ys : List ℤ). x ∷ ys) (copies-runs xs)

unfolded_runs : (value : ℕ → ℤ) (most : ℕ) (runs : List (Stretch ℤ)) → most < 2 ^ 32 → AllByRecursion (IsWithin value most) runs → per_sample value (map run_text runs) ≡ flat_map copies runs
unfolded_runs value most [] fits h = refl
unfolded_runs value most (run ∷ runs) fits h =
    let count : count_of run < 2 ^ 32 = let c = h.0.count in omega arith in
    rw (count_read run count, value_read run h.0.first.fits, h.0.first.kept, unfolded_runs value most runs fits h.1) refl

length-in_front : (x : ℤ) (runs : List (Stretch ℤ)) → length (in_front int_eq x runs) ≤ suc (length runs)
length-in_front x [] = omega arith
length-in_front x (run ∷ runs) = by (int_eq x run.first)
  where
    by : (b : Bool) → length (cond b (record { first = x; others = items_of run } ∷ runs) (record { first = x; others = [] } ∷ run ∷ runs)) ≤ suc (suc (length runs))
    by true = omega arith
    by false = omega arith

length-runs : (xs : List ℤ) → length (runs xs) ≤ length xs
length-runs [] = omega arith
length-runs (x ∷ xs) = omega (arith, length-in_front x (runs xs), length-runs xs)

-- the rows of runs
rows_are_texts : (found : List (Stretch ℤ)) → map body_bytes (map run_row found) ≡ map run_text found
unfolding run_text
rows_are_texts [] = refl
rows_are_texts (run ∷ found) = ap (λ (texts : List (List ℕ)). run_text run ∷ texts) (rows_are_texts found)

pub eight_each : (found : List (Stretch ℤ)) → AllByRecursion (HasWidth 8) (map run_row found)
eight_each [] = tt
eight_each (run ∷ found) = (refl, eight_each found)

-- the values that are read are those that were written
pub record AreRead (signed : Bool) (newest : ℕ) (value : ℕ → ℤ) (xs : List ℤ) : Type 0 where
  pub no_fault : table_fault newest 8 (runs_body signed xs) ≡ None
  pub versioned : version (runs_body signed xs) ≡ cond signed 1 0
  pub values : per_sample value (table_rows 8 (runs_body signed xs)) ≡ xs

values-read : TablesAreRead → (signed : Bool) (newest : ℕ) (value : ℕ → ℤ) (xs : List ℤ) → length xs < 2 ^ 32 → cond signed 1 0 ≤ newest → AllByRecursion (IsKept value) xs → AreRead signed newest value xs
unfolding runs_body
values-read law signed newest value xs few old kept =
    let rows = map run_row (runs xs) in
    let few_rows : length rows < 2 ^ 32 = omega (arith, length-runs xs, length-map (runs xs) run_row, few) in
    let r = law.table newest 8 signed rows (eight_each (runs xs)) few_rows old in
    record {
      no_fault = r.fault;
      versioned = r.version_is;
      values = ap (per_sample value) (r.rows_are ∙ rows_are_texts (runs xs)) ∙ (unfolded_runs value (length xs) (runs xs) few (within-runs value xs kept) ∙ copies-runs xs);
    }

-- ---- values that 32 bits keep

unsigned_kept : (x : ℤ) → FitsUnsigned w32 x → IsKept pos x
unsigned_kept (pos n) h = let lt : n < 2 ^ 32 = omega (arith, ints, h.1) in record { fits = lt; kept = refl }
unsigned_kept (negsuc n) h = absurd (omega (arith, ints, h.0))

signed_kept : (x : ℤ) → FitsSigned w32 x → IsKept (cast_signed w32) x
signed_kept x h = record { fits = search (rules, Fits-of_z h); kept = to_z-of_z w32 x h }

-- what holds of each item by its index, one item after another
pub each_item : {P Q : ℤ → Type 0} → ((x : ℤ) → P x → Q x) → (xs : List ℤ) → All P xs → AllByRecursion Q xs
each_item f [] all = tt
each_item f (x ∷ xs) all = (f x (all 0 (pos 0) (omega arith)), each_item f xs (λ i d lt. all (suc i) d (omega (arith, lt))))

by_test : (x : ℤ) → is_unsigned x ≡ true → IsKept pos x
by_test (pos n) e = let le = leb-true n (2 ^ 32 - 1) e in record { fits = omega (arith, le); kept = refl }
by_test (negsuc n) e = absurd (false≢true e)

all_by_test : (xs : List ℤ) → list_all is_unsigned xs ≡ true → AllByRecursion (IsKept pos) xs
all_by_test [] e = tt
all_by_test (x ∷ xs) e = let p = and_parts (is_unsigned x) (list_all is_unsigned xs) e in (by_test x p.0, all_by_test xs p.1)

test_of : (x : ℤ) → FitsUnsigned w32 x → is_unsigned x ≡ true
test_of (pos n) h = le-leb n (2 ^ 32 - 1) (omega (arith, ints, h.1))
test_of (negsuc n) h = absurd (omega (arith, ints, h.0))

all_tests : (xs : List ℤ) → All (FitsUnsigned w32) xs → list_all is_unsigned xs ≡ true
all_tests [] all = refl
all_tests (x ∷ xs) all = rw (test_of x (all 0 (pos 0) (omega arith))) (all_tests xs (λ i d lt. all (suc i) d (omega (arith, lt))))

-- ---- the tables

pub durations_read : TablesAreRead → (xs : List ℤ) → length xs < 2 ^ 32 → All (FitsUnsigned w32) xs → stts_of (runs_body false xs) ≡ Ok xs
durations_read law xs few all =
    let r = values-read law false 0 pos xs few (omega arith) (each_item unsigned_kept xs all) in
    rw r.no_fault (ap (λ (ys : List ℤ). Ok ys) r.values)

offsets_as : (signed : Bool) (value : ℕ → ℤ) (xs : List ℤ) → offset (cond signed 1 0) ≡ value → AreRead signed 1 value xs → ctts_of (runs_body signed xs) ≡ Ok xs
offsets_as signed value xs is r =
    let rows = table_rows 8 (runs_body signed xs) in
    rw r.no_fault (ap (λ (ys : List ℤ). Ok ys) (ap (λ (v : ℕ). per_sample (offset v) rows) r.versioned ∙ (ap (λ (f : ℕ → ℤ). per_sample f rows) is ∙ r.values)))

pub offsets_read : TablesAreRead → (xs : List ℤ) → length xs < 2 ^ 32 → FitOffsets xs → ctts_of (runs_body (are_signed xs) xs) ≡ Ok xs
offsets_read law xs few fits = by (list_all is_unsigned xs) refl fits
  where
    by : (b : Bool) → list_all is_unsigned xs ≡ b → FitOffsets xs → ctts_of (runs_body (not b) xs) ≡ Ok xs
    by true e h = offsets_as false pos xs refl (values-read law false 1 pos xs few (omega arith) (all_by_test xs e))
    by false e (inl all) = absurd (false≢true (sym e ∙ all_tests xs all))
    by false e (inr all) = offsets_as true (cast_signed w32) xs refl (values-read law true 1 (cast_signed w32) xs few (omega arith) (each_item signed_kept xs all))

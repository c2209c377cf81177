-- The marks that are read are those whose numbers were written.
use Rattle.std.proofs.Common.{◌≡◌, ℕ, suc, ◌+◌, ◌^◌, ◌<◌, ◌≤◌, Bool, true, false, cond, List, [], ◌∷◌, length, map, ℤ, pos, Ok, inl, inr, refl, ap, ◌∙◌, arith}
use Rattle.std.specs.Prelude.{All}
use Rattle.std.specs.List.{range_with_len, AllByRecursion}
use Rattle.std.specs.Int.{w32, to_be_bytes}
use Rattle.std.proofs.lemmas.Bool.{eq-eqb}
use Rattle.std.proofs.lemmas.List.{length-map}
use Rattle.std.proofs.lemmas.Nat.{from_be_bytes-to_be_bytes_4}
use Rattle.mp_boxes.specs.Number.{u32_at}
use Rattle.mp_boxes.specs.Field.{body_bytes}
use Rattle.mp_boxes.specs.Table.{HasWidth, TablesAreRead}
use Rattle.mp_times.specs.Sync.{mark, numbers_of, stss_of}
use Rattle.mp_times.specs.Sync.{is_sync}
use Rattle.mp_times.specs.Written.{IsMark, stss_body, sync_numbers, sync_row}
use Rattle.mp_times.proofs.MarksFromNumbers.{rise, rise-none, rise-next, absent, same_behind, rising, of_samples}
use Rattle.mp_times.proofs.LeftOut.{few_syncs}
use Rattle.mp_times.proofs.WrittenRows.{each_item}

-- the bytes of a number
unfoldable pub number_text : ℕ → List ℕ
number_text number = to_be_bytes w32 number

number_read : (number : ℕ) → number < 2 ^ 32 → u32_at (number_text number) 0 ≡ number
unfolding number_text u32_at
number_read number fits = from_be_bytes-to_be_bytes_4 number fits

rows_are_texts : (numbers : List ℕ) → map body_bytes (map sync_row numbers) ≡ map number_text numbers
unfolding number_text
rows_are_texts [] = refl
rows_are_texts (number ∷ numbers) = ap (λ (texts : List (List ℕ)). number_text number ∷ texts) (rows_are_texts numbers)

pub four_each : (numbers : List ℕ) → AllByRecursion (HasWidth 4) (map sync_row numbers)
four_each [] = tt
four_each (number ∷ numbers) = (refl, four_each numbers)

numbers_read : (numbers : List ℕ) → AllByRecursion (λ number. number < 2 ^ 32) numbers → map (λ row. u32_at row 0) (map number_text numbers) ≡ numbers
numbers_read [] fits = refl
numbers_read (number ∷ numbers) fits = rw (number_read number fits.0, numbers_read numbers fits.1) refl

-- ---- the numbers that are written

numbers_fit : (number : ℕ) (xs : List ℤ) → number + length xs ≤ 2 ^ 32 → AllByRecursion (λ n. n < 2 ^ 32) (sync_numbers number xs)
numbers_fit number [] h = tt
numbers_fit number (x ∷ xs) h = by (numbers_fit (number + 1) xs (omega (arith, h))) (is_sync x)
  where
    by : AllByRecursion (λ n. n < 2 ^ 32) (sync_numbers (number + 1) xs) → (b : Bool) → AllByRecursion (λ n. n < 2 ^ 32) (cond b (number ∷ sync_numbers (number + 1) xs) (sync_numbers (number + 1) xs))
    by rest true = (omega (arith, h), rest)
    by rest false = rest

numbers_rise : (low most number : ℕ) (xs : List ℤ) → low < number → number + length xs ≤ most + 1 → rise low most (sync_numbers number xs) ≡ true
numbers_rise low most number [] lt h = rise-none low most
numbers_rise low most number (x ∷ xs) lt h = by (numbers_rise number most (number + 1) xs (omega arith) (omega (arith, h))) (numbers_rise low most (number + 1) xs (omega arith) (omega (arith, h))) (is_sync x)
  where
    by : rise number most (sync_numbers (number + 1) xs) ≡ true → rise low most (sync_numbers (number + 1) xs) ≡ true → (b : Bool)
        → rise low most (cond b (number ∷ sync_numbers (number + 1) xs) (sync_numbers (number + 1) xs)) ≡ true
    by here later true = rise-next low most number (sync_numbers (number + 1) xs) lt (omega (arith, h)) ∙ here
    by here later false = later

marks_back : (most number : ℕ) (xs : List ℤ) → number + length xs ≤ most + 1 → AllByRecursion IsMark xs → map (mark (sync_numbers number xs)) (range_with_len number (length xs)) ≡ xs
marks_back most number [] h are = refl
marks_back most number (x ∷ xs) h are = by (marks_back most (number + 1) xs (omega (arith, h)) are.1) are.0
  where
    by : map (mark (sync_numbers (number + 1) xs)) (range_with_len (number + 1) (length xs)) ≡ xs → IsMark x → map (mark (sync_numbers number (x ∷ xs))) (range_with_len number (suc (length xs))) ≡ x ∷ xs
    by rest (inl e) =
        let none = absent number most number (sync_numbers (number + 1) xs) (omega arith) (numbers_rise number most (number + 1) xs (omega arith) (omega (arith, h))) in
        let is : sync_numbers number (x ∷ xs) ≡ sync_numbers (number + 1) xs = rw e refl in
        ap (λ (ns : List ℕ). map (mark ns) (range_with_len number (suc (length xs)))) is ∙ rw (none, e) (ap (λ (ys : List ℤ). pos 0 ∷ ys) rest)
    by rest (inr e) =
        let is : sync_numbers number (x ∷ xs) ≡ number ∷ sync_numbers (number + 1) xs = rw e refl in
        ap (λ (ns : List ℕ). map (mark ns) (range_with_len number (suc (length xs)))) is ∙ rw (e, eq-eqb number number refl) (ap (λ (ys : List ℤ). pos 1 ∷ ys) (same_behind (number + 1) (length xs) number (sync_numbers (number + 1) xs) (omega arith) ∙ rest))

pub syncs_read : TablesAreRead → (xs : List ℤ) → length xs < 2 ^ 32 → All IsMark xs → stss_of (length xs) (stss_body (sync_numbers 1 xs)) ≡ Ok xs
unfolding stss_body
syncs_read law xs few all =
    let numbers = sync_numbers 1 xs in
    let samples = length xs in
    let r = law.table 0 4 false (map sync_row numbers) (four_each numbers) (omega (arith, few, few_syncs 1 xs, length-map numbers sync_row)) (omega arith) in
    let found : numbers_of (stss_body numbers) ≡ numbers =
    ap (map (λ row. u32_at row 0)) (r.rows_are ∙ rows_are_texts numbers) ∙ numbers_read numbers (numbers_fit 1 xs (omega (arith, few))) in
    let e = numbers_rise 0 samples 1 xs (omega arith) (omega arith) in
    rw (r.fault, found, rising 0 samples numbers e, of_samples 0 samples numbers e) (ap (λ (ys : List ℤ). Ok ys) (marks_back samples 1 xs (omega arith) (each_item (λ x is. is) xs all)))

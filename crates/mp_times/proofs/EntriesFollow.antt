-- The rows of a table follow one another, and unfold to one item for each sample.
use Rattle.std.proofs.Common.{◌≡◌, ℕ, suc, ◌+◌, ◌-◌, ◌*◌, ◌^◌, ◌<◌, ◌≤◌, List, [], ◌∷◌, ◌++◌, length, replicate, drop, take, ℤ, refl, sym, ap, ◌∙◌, append_assoc, add-zero, arith}
use Rattle.std.specs.Prelude.{slice_index}
use Rattle.std.proofs.lemmas.List.{get_or-take, get_or-drop, drop-drop, append-nil, length-append, length-replicate}
use Rattle.std.proofs.lemmas.List.Sums.{sum_by-cons}
use Rattle.mp_boxes.specs.Number.{u32_at}
use Rattle.mp_boxes.specs.FullBox.{rows_of}
use Rattle.mp_times.specs.Times.{per_sample, sample_count}

-- the rows behind the first `i` of so many
abbrev pub rows_from : ℕ → ℕ → ℕ → List ℕ → List (List ℕ)
rows_from width rows i body = rows_of (rows - i) width (drop (8 + width * i) body)

pub rows_from-next : (width rows i : ℕ) (body : List ℕ) → i < rows → rows_from width rows i body ≡ take width (drop (8 + width * i) body) ∷ rows_from width rows (i + 1) body
unfolding rows_of
rows_from-next width rows i body lt =
    let one : rows - i ≡ suc (rows - (i + 1)) = omega arith in
    let at : 8 + width * i + width ≡ 8 + width * (i + 1) = omega arith in
    rw (one, drop-drop width (8 + width * i) body, at) refl

pub rows_from-none : (width rows i : ℕ) (body : List ℕ) → rows ≤ i → rows_from width rows i body ≡ []
unfolding rows_of
rows_from-none width rows i body le = let none : rows - i ≡ 0 = omega arith in rw none refl

-- ---- the numbers of a row

byte_in_row : (body : List ℕ) (k j width m : ℕ) → j + m < width → slice_index (take width (drop k body)) (j + m) ≡ slice_index body (k + j + m)
byte_in_row body k j width m lt = get_or-take width (drop k body) (j + m) 0 lt ∙ (get_or-drop k body (j + m) 0 ∙ ap (λ (n : ℕ). slice_index body n) (omega arith))

second_number : (body : List ℕ) (k j width : ℕ) → j + 4 ≤ width → u32_at (take width (drop k body)) j ≡ u32_at body (k + j)
unfolding u32_at
second_number body k j width h =
    let start : slice_index (take width (drop k body)) j ≡ slice_index body (k + j) = get_or-take width (drop k body) j 0 (omega arith) ∙ get_or-drop k body j 0 in
    rw (start, byte_in_row body k j width 1 (omega arith), byte_in_row body k j width 2 (omega arith), byte_in_row body k j width 3 (omega arith)) refl

pub first_number : (body : List ℕ) (k width : ℕ) → 4 ≤ width → u32_at (take width (drop k body)) 0 ≡ u32_at body k
first_number body k width h = second_number body k 0 width h ∙ ap (u32_at body) (add-zero k)

-- ---- how many samples

-- the samples of the first `i` rows are counted
pub record SamplesAreCounted (body : List ℕ) (rows i samples : ℕ) : Type 0 where
  pub small : samples ≤ i * (2 ^ 32 - 1)
  pub counted : samples + sample_count (rows_from 8 rows i body) ≡ sample_count (rows_of rows 8 (drop 8 body))

samples_next : (body : List ℕ) (rows i : ℕ) → i < rows → sample_count (rows_from 8 rows i body) ≡ u32_at body (8 + 8 * i) + sample_count (rows_from 8 rows (i + 1) body)
samples_next body rows i lt =
    ap sample_count (rows_from-next 8 rows i body lt)
    ∙ (sum_by-cons (λ row. u32_at row 0) (take 8 (drop (8 + 8 * i) body)) (rows_from 8 rows (i + 1) body) ∙ ap (λ (number : ℕ). number + sample_count (rows_from 8 rows (i + 1) body)) (first_number body (8 + 8 * i) 8 (omega arith)))

pub row_is_counted : {body : List ℕ} {rows i samples number : ℕ} → SamplesAreCounted body rows i samples → i < rows → number ≡ u32_at body (8 + 8 * i) → number < 2 ^ 32 → SamplesAreCounted body rows (i + 1) (samples + number)
row_is_counted {body} {rows} {i} so_far lt is fits =
    let small = so_far.small in
    let counted = so_far.counted in
    record { small = omega arith; counted = omega (arith, samples_next body rows i lt) }

pub all_are_counted : {body : List ℕ} {rows i samples : ℕ} → SamplesAreCounted body rows i samples → rows ≤ i → samples ≡ sample_count (rows_of rows 8 (drop 8 body))
all_are_counted {body} {rows} {i} so_far le = let counted = so_far.counted in let none = ap sample_count (rows_from-none 8 rows i body le) in omega (arith, none)

-- ---- the items

length-per_sample : (value : ℕ → ℤ) (rows : List (List ℕ)) → length (per_sample value rows) ≡ sample_count rows
length-per_sample value [] = refl
length-per_sample value (row ∷ rows) =
    omega (arith, length-append (replicate (u32_at row 0) (value (u32_at row 4))) (per_sample value rows), length-replicate (u32_at row 0) (value (u32_at row 4)), length-per_sample value rows, sum_by-cons (λ row. u32_at row 0) row rows)

items_next : (value : ℕ → ℤ) (body : List ℕ) (rows i : ℕ) → i < rows
    → per_sample value (rows_from 8 rows i body) ≡ replicate (u32_at body (8 + 8 * i)) (value (u32_at body (8 + 8 * i + 4))) ++ per_sample value (rows_from 8 rows (i + 1) body)
items_next value body rows i lt = ap (per_sample value) (rows_from-next 8 rows i body lt) ∙ rw (first_number body (8 + 8 * i) 8 (omega arith), second_number body (8 + 8 * i) 4 8 (omega arith)) refl

-- the items of the first `i` rows are there
pub record ItemsAreThere (value : ℕ → ℤ) (body : List ℕ) (rows i : ℕ) (items : List ℤ) : Type 0 where
  pub unfolded : items ++ per_sample value (rows_from 8 rows i body) ≡ per_sample value (rows_of rows 8 (drop 8 body))

pub row_is_unfolded : {value : ℕ → ℤ} {body : List ℕ} {rows i count bits : ℕ} {x : ℤ} {items new : List ℤ} → ItemsAreThere value body rows i items → i < rows
    → count ≡ u32_at body (8 + 8 * i) → bits ≡ u32_at body (8 + 8 * i + 4) → x ≡ value bits → new ≡ items ++ replicate count x → ItemsAreThere value body rows (i + 1) new
row_is_unfolded {value} {body} {rows} {i} {items = items} so_far lt count_is bits_are x_is new_is =
    record { unfolded = rw (new_is, x_is, count_is, bits_are) (append_assoc items _ _ ∙ (ap (λ (ys : List ℤ). items ++ ys) (sym (items_next value body rows i lt)) ∙ so_far.unfolded)) }

pub row_fits : {value : ℕ → ℤ} {body : List ℕ} {rows i count most : ℕ} {items : List ℤ} → ItemsAreThere value body rows i items → i < rows
    → count ≡ u32_at body (8 + 8 * i) → sample_count (rows_of rows 8 (drop 8 body)) ≤ most → length items + count ≤ most
row_fits {value} {body} {rows} {i} {items = items} so_far lt count_is few =
    let rest = per_sample value (rows_from 8 rows i body) in
    omega (arith, ap length so_far.unfolded, length-append items rest, length-per_sample value (rows_from 8 rows i body), length-per_sample value (rows_of rows 8 (drop 8 body)), samples_next body rows i lt)

pub all_are_unfolded : {value : ℕ → ℤ} {body : List ℕ} {rows i : ℕ} {items : List ℤ} → ItemsAreThere value body rows i items → rows ≤ i → items ≡ per_sample value (rows_of rows 8 (drop 8 body))
all_are_unfolded {value} {body} {rows} {i} {items} so_far le = sym (append-nil items) ∙ (ap (λ (found : List (List ℕ)). items ++ per_sample value found) (sym (rows_from-none 8 rows i body le)) ∙ so_far.unfolded)

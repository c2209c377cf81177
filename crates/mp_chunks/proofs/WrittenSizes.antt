-- The sizes that are written are those that are read.
use Rattle.std.proofs.Common.{◌≡◌, ℕ, suc, ◌+◌, ◌*◌, ◌^◌, ◌<◌, ◌≤◌, Bool, true, false, eqb, cond, List, [], ◌∷◌, ◌++◌, length, map, drop, replicate, None, refl, ap, arith, inl, inr}
use Rattle.std.specs.List.{flat_map, list_all, AllByRecursion}
use Rattle.std.specs.Int.{w32, to_be_bytes}
use Rattle.std.proofs.lemmas.Bool.{eqb-true, ne_eqb, le-ltb, cases_eq, and_parts}
use Rattle.std.proofs.lemmas.List.{length-map}
use Rattle.std.proofs.lemmas.Nat.{from_be_bytes-to_be_bytes_4}
use Rattle.mp_ports.specs.Checks.{first_code}
use Rattle.mp_boxes.specs.Number.{u32_at}
use Rattle.mp_boxes.specs.Field.{body_bytes}
use Rattle.mp_boxes.specs.FullBox.{version}
use Rattle.mp_boxes.specs.Table.{TablesAreRead}
use Rattle.mp_chunks.specs.Sizes.{stsz_of, stsz_checks, sample_count, common_size}
use Rattle.mp_chunks.specs.Written.{size_of_all, size_row, stsz_body}
use Rattle.mp_chunks.proofs.RowsAreWritten.{four_each}

-- ---- the common size

all_same : (size : ℕ) (sizes : List ℕ) → list_all (λ other. eqb other size) sizes ≡ true → replicate (length sizes) size ≡ sizes
all_same size [] e = refl
all_same size (other ∷ sizes) e =
    let both = and_parts (eqb other size) (list_all (λ other. eqb other size) sizes) e in
    rw (all_same size sizes both.1, eqb-true other size both.0) refl

-- it is 0, or that of each
common_is : (sizes : List ℕ) → (size_of_all sizes ≡ 0 → ⊥) → replicate (length sizes) (size_of_all sizes) ≡ sizes
common_is [] some = refl
common_is (size ∷ sizes) some = by (list_all (λ other. eqb other size) sizes) refl some
  where
    by : (b : Bool) → list_all (λ other. eqb other size) sizes ≡ b → (cond b size 0 ≡ 0 → ⊥) → replicate (suc (length sizes)) (cond b size 0) ≡ size ∷ sizes
    by true e h = ap (λ (xs : List ℕ). size ∷ xs) (all_same size sizes e)
    by false e h = absurd (h refl)

common_fits : (sizes : List ℕ) → AllByRecursion (λ size. size < 2 ^ 32) sizes → size_of_all sizes < 2 ^ 32
common_fits [] fits = omega arith
common_fits (size ∷ sizes) fits = by (list_all (λ other. eqb other size) sizes)
  where
    by : (b : Bool) → cond b size 0 < 2 ^ 32
    by true = fits.0
    by false = omega arith

-- ---- the fields in front of the sizes

unfoldable sized : ℕ → ℕ → List ℕ → List ℕ
sized common count rows = to_be_bytes w32 0 ++ (to_be_bytes w32 common ++ (to_be_bytes w32 count ++ rows))

record IsSized (size samples : ℕ) (text body : List ℕ) : Type 0 where
  pub version : version body ≡ 0
  pub common : common_size body ≡ size
  pub count : sample_count body ≡ samples
  pub long : length body ≡ 12 + length text
  pub rows : drop 12 body ≡ text

is_sized : (common count : ℕ) (rows : List ℕ) → common < 2 ^ 32 → count < 2 ^ 32 → IsSized common count rows (sized common count rows)
unfolding u32_at sized
is_sized common count rows small few = record { version = refl; common = from_be_bytes-to_be_bytes_4 common small; count = from_be_bytes-to_be_bytes_4 count few; long = omega arith; rows = refl }

-- a body without faults, and the sizes that are read of it
pub record HasSizes (body sizes : List ℕ) : Type 0 where
  pub no_fault : first_code (stsz_checks body) ≡ None
  pub count : sample_count body ≡ length sizes
  pub read : stsz_of body ≡ sizes

-- ---- a size for each

number_read : (n : ℕ) → n < 2 ^ 32 → u32_at (body_bytes (size_row n)) 0 ≡ n
unfolding u32_at
number_read n fits = from_be_bytes-to_be_bytes_4 n fits

numbers_read : (ns : List ℕ) → AllByRecursion (λ n. n < 2 ^ 32) ns → map (λ row. u32_at row 0) (map body_bytes (map size_row ns)) ≡ ns
numbers_read [] fits = refl
numbers_read (n ∷ ns) fits = rw (number_read n fits.0, numbers_read ns fits.1) refl

own_sizes : TablesAreRead → (sizes body : List ℕ) → AllByRecursion (λ size. size < 2 ^ 32) sizes → IsSized 0 (length sizes) (flat_map body_bytes (map size_row sizes)) body → HasSizes body sizes
unfolding stsz_of
own_sizes tables sizes body fits is =
    let rows = map size_row sizes in
    let long : 12 + 4 * sample_count body ≤ length body = omega (arith, is.long, tables.len 4 rows (four_each sizes), length-map sizes size_row, ap (λ (n : ℕ). 4 * n) is.count) in
    record {
      no_fault = rw (le-ltb (length body) 4 (omega (arith, is.long)), is.version, le-ltb (length body) 12 (omega (arith, is.long)), is.common, le-ltb (length body) (12 + 4 * sample_count body) long) refl;
      count = is.count;
      read = rw (is.common, is.count, is.rows, ← length-map sizes size_row, tables.rows 4 rows (four_each sizes)) (numbers_read sizes fits);
    }

-- ---- one size for all

one_size : (size : ℕ) (sizes body : List ℕ) → (size ≡ 0 → ⊥) → replicate (length sizes) size ≡ sizes → IsSized size (length sizes) [] body → HasSizes body sizes
unfolding stsz_of
one_size size sizes body some all is = record {
  no_fault = rw (le-ltb (length body) 4 (omega (arith, is.long)), is.version, le-ltb (length body) 12 (omega (arith, is.long)), is.common, ne_eqb size 0 some) refl;
  count = is.count;
  read = rw (is.common, ne_eqb size 0 some, is.count) all;
}

-- the sizes are read
pub sizes_read : TablesAreRead → (sizes : List ℕ) → length sizes < 2 ^ 32 → AllByRecursion (λ size. size < 2 ^ 32) sizes → HasSizes (stsz_body sizes) sizes
unfolding stsz_body sized
sizes_read tables sizes few fits = elim (cases_eq (size_of_all sizes) 0) [
  | inl none ↦ rw (none, tables.text (map size_row sizes)) (own_sizes tables sizes _ fits (is_sized 0 (length sizes) (flat_map body_bytes (map size_row sizes)) (omega arith) few))
  | inr some ↦ rw (ne_eqb (size_of_all sizes) 0 some) (one_size (size_of_all sizes) sizes _ some (common_is sizes some) (is_sized (size_of_all sizes) (length sizes) [] (common_fits sizes fits) few))
]

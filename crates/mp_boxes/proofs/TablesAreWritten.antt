-- A table that is written has no fault, and its rows are read.
use Rattle.std.proofs.Common.{◌≡◌, ℕ, ◌+◌, ◌*◌, ◌^◌, ◌<◌, ◌≤◌, Bool, true, false, if◌then◌else◌, List, [], ◌∷◌, ◌++◌, length, map, refl, sym, ap, ◌∙◌, arith}
use Rattle.std.specs.List.{flat_map, AllByRecursion}
use Rattle.std.specs.Int.{w32, to_be_bytes}
use Rattle.std.proofs.lemmas.Bool.{le-ltb}
use Rattle.std.proofs.lemmas.List.{take_at, drop_at}
use Rattle.std.proofs.lemmas.Grind.{flat_map-append}
use Rattle.std.proofs.lemmas.Nat.{from_be_bytes-to_be_bytes_4}
use Rattle.mp_boxes.specs.declared.field.Field.{Field}
use Rattle.mp_boxes.specs.Number.{u32_at}
use Rattle.mp_boxes.specs.Field.{body_bytes, field_bytes}
use Rattle.mp_boxes.specs.FullBox.{flags, row_count, rows_of, table_fault, version}
use Rattle.mp_boxes.specs.Table.{HasTable, HasWidth, table_fields}
use Rattle.mp_boxes.proofs.Lengths.{rows-len}

-- the bytes of rows, one after another
pub rows_text : (rows : List (List Field)) → body_bytes (flat_map (λ row. row) rows) ≡ flat_map body_bytes rows
rows_text [] = refl
rows_text (row ∷ rows) = flat_map-append field_bytes row (flat_map (λ r. r) rows) ∙ ap (λ (bytes : List ℕ). body_bytes row ++ bytes) (rows_text rows)

pub text-len : (width : ℕ) (rows : List (List Field)) → AllByRecursion (HasWidth width) rows → length (flat_map body_bytes rows) ≡ width * length rows
text-len width rows each = sym (ap length (rows_text rows)) ∙ rows-len width rows each

pub rows-cut : (width : ℕ) (rows : List (List Field)) → AllByRecursion (HasWidth width) rows → rows_of (length rows) width (flat_map body_bytes rows) ≡ map body_bytes rows
unfolding rows_of
rows-cut width [] each = refl
rows-cut width (row ∷ rows) each = rw (take_at (body_bytes row) (flat_map body_bytes rows) width each.0, drop_at (body_bytes row) (flat_map body_bytes rows) width each.0, rows-cut width rows each.1) refl

-- version and flags, a number of rows and a text
unfoldable table : Bool → ℕ → List ℕ → List ℕ
table wide count text = to_be_bytes w32 ((if wide then 2 ^ 24 else 0) + 0) ++ (to_be_bytes w32 count ++ text)

count-written : (wide : Bool) (count : ℕ) (text : List ℕ) → count < 2 ^ 32 → row_count (table wide count text) ≡ count
unfolding u32_at table
count-written wide count text fits = from_be_bytes-to_be_bytes_4 count fits

version-written : (wide : Bool) (count : ℕ) (text : List ℕ) → version (table wide count text) ≡ (if wide then 1 else 0)
unfolding u32_at table
version-written true count text = refl
version-written false count text = refl

flags-written : (wide : Bool) (count : ℕ) (text : List ℕ) → flags (table wide count text) ≡ 0
unfolding u32_at table
flags-written true count text = refl
flags-written false count text = refl

table-len : (wide : Bool) (count : ℕ) (text : List ℕ) → length (table wide count text) ≡ 8 + length text
unfolding table
table-len wide count text = omega arith

-- what is read of a table are the rows that were written
pub table-read : (newest width : ℕ) (wide : Bool) (rows : List (List Field)) → AllByRecursion (HasWidth width) rows → length rows < 2 ^ 32 → (if wide then 1 else 0) ≤ newest
    → HasTable newest width wide rows (body_bytes (table_fields wide rows))
unfolding table_fault table
table-read newest width wide rows each few known =
    let text = flat_map body_bytes rows in
    let body = table wide (length rows) text in
    let counted = count-written wide (length rows) text few in
    let versioned = version-written wide (length rows) text in
    let long = table-len wide (length rows) text in
    let whole : 8 + width * row_count body ≤ length body = omega (arith, text-len width rows each, ap (λ (n : ℕ). width * n) counted) in
    rw (rows_text rows)
    (record {
      fault =
          rw (le-ltb (length body) 4 (omega arith), le-ltb newest (version body) (omega (arith, versioned)), le-ltb (length body) 8 (omega arith), le-ltb (length body) (8 + width * row_count body) whole) refl;
      version_is = versioned;
      flags_are = flags-written wide (length rows) text;
      count = counted;
      len = omega (arith, text-len width rows each);
      rows_are = ap (λ (n : ℕ). rows_of n width text) counted ∙ rows-cut width rows each;
    })

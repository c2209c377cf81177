-- A full box as it is read: version and flags, and then fields, or a table: the number of its rows, and the rows, each of
-- one length (ISO/IEC 14496-12, 4.2). What is read is the body of the box.
use Rattle.std.specs.Prelude.{ℕ, zero, suc, ◌+◌, ◌*◌, ◌/◌, ◌%◌, ◌^◌, ◌≤◌, Bool, nat_lt, Option, List, [], ◌∷◌, ◌++◌, length, take, drop}
use Rattle.mp_ports.specs.declared.code.Code.{Code}
use Rattle.mp_ports.specs.declared.code.Code.TheVariants.{BoxVersion, TableLength}
use Rattle.mp_ports.specs.Checks.{first_code}
use Rattle.mp_boxes.specs.Number.{u32_at}

-- the version: the first of the four bytes
abbrev pub version : List ℕ → ℕ
version body = u32_at body 0 / 2 ^ 24

-- the flags: the other three
abbrev pub flags : List ℕ → ℕ
flags body = u32_at body 0 % 2 ^ 24

-- the place of the first field behind them; in a table it is the number of rows
abbrev pub first_field : ℕ
first_field = 4

-- how many rows a table says that it has
abbrev pub row_count : List ℕ → ℕ
row_count body = u32_at body first_field

-- the place of the first row
abbrev pub first_row : ℕ
first_row = 8

-- so many rows of so many bytes each, one after another
unfoldable pub rows_of : ℕ → ℕ → List ℕ → List (List ℕ)
rows_of zero width bytes = []
rows_of (suc count) width bytes = take width bytes ∷ rows_of count width (drop width bytes)

-- the rows of a table, of so many bytes each
abbrev pub table_rows : ℕ → List ℕ → List (List ℕ)
table_rows width body = rows_of (row_count body) width (drop first_row body)

-- the body is long enough for its rows
abbrev pub HasRows : ℕ → List ℕ → Type 0
HasRows width body = first_row + width * row_count body ≤ length body

-- the faults, in order, of a full box that is read up to version `newest` and has fields as far as `end`
abbrev pub full_box_checks : ℕ → ℕ → List ℕ → List (Bool × Code)
full_box_checks newest end body =
    (nat_lt (length body) first_field, TableLength)
    ∷ (nat_lt newest (version body), BoxVersion)
    ∷ (nat_lt (length body) end, TableLength)
    ∷ []

-- and those of a table
abbrev pub table_checks : ℕ → ℕ → List ℕ → List (Bool × Code)
table_checks newest width body = full_box_checks newest first_row body ++ (nat_lt (length body) (first_row + width * row_count body), TableLength) ∷ []

-- the first fault of a table
unfoldable pub table_fault : ℕ → ℕ → List ℕ → Option Code
table_fault newest width body = first_code (table_checks newest width body)

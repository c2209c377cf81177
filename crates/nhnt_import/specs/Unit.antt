-- The records of an NHNT table, each of one access unit: a length, a byte of flags, a place, a composition and a decode time.
use Rattle.std.specs.Prelude.{ℕ, ◌+◌, ◌-◌, ◌*◌, ◌/◌, ◌%◌, ◌==◌, ◌&&◌, not, nat_lt, zero, suc, Bool, List, [], ◌∷◌, length, drop, slice_index, Option, if◌then◌else◌}
use Rattle.mp_ports.specs.Checks.{first_code}
use Rattle.mp_ports.specs.declared.code.Code.{Code}
use Rattle.mp_ports.specs.declared.code.Code.TheVariants.{NhntUnit, NhntOrder, NhntRange}
use Rattle.mp_boxes.specs.Number.{u32_at, u64_at}
use Rattle.nhnt_import.specs.declared.unit.AccessUnit.{AccessUnit}
use Rattle.nhnt_import.specs.Number.{u24_at}
use Rattle.nhnt_import.specs.Head.{head_len, is_wide}

-- the length of a record
abbrev pub record_len : Bool → ℕ
record_len wide = if wide then 28 else 16

-- a place or a time: one of three numbers behind the flags, of 64 or 32 bits
abbrev pub number_at : Bool → List ℕ → ℕ → ℕ
number_at wide bytes k = if wide then u64_at bytes (4 + k * 8) else u32_at bytes (4 + k * 4)

-- the record at the front of these bytes
abbrev pub unit_of : Bool → List ℕ → AccessUnit
unit_of wide bytes = record {
  len = u24_at bytes 0;
  flags = slice_index bytes 3;
  from = number_at wide bytes 0;
  composition = number_at wide bytes 1;
  decode = number_at wide bytes 2;
}

-- so many records, one after another
unfoldable pub units : Bool → ℕ → List ℕ → List AccessUnit
units wide zero bytes = []
units wide (suc count) bytes = unit_of wide bytes ∷ units wide count (drop (record_len wide) bytes)

-- how many whole records a table has
abbrev pub record_count : List ℕ → ℕ
record_count table = (length table - head_len) / record_len (is_wide table)

-- the whole records of a table
abbrev pub units_in : List ℕ → List AccessUnit
units_in table = units (is_wide table) (record_count table) (drop head_len table)

-- a bit of the flags, by its value
abbrev pub has_flag : AccessUnit → ℕ → Bool
has_flag unit flag = unit.flags / flag % 2 == 1

-- decoding may begin with this unit
abbrev pub is_sync : AccessUnit → Bool
is_sync unit = has_flag unit 0x80

-- the record begins a unit and ends it
abbrev pub is_whole : AccessUnit → Bool
is_whole unit = has_flag unit 0x40 && has_flag unit 0x20

-- the checks of a whole record, in order, where the `.media` file has so many bytes and the unit before is decoded at that time, or there
-- is none before, and the time is 0
abbrev pub unit_checks : ℕ → ℕ → AccessUnit → List (Bool × Code)
unit_checks size before unit =
    (not (is_whole unit), NhntUnit)
    ∷ (nat_lt unit.decode before, NhntOrder)
    ∷ (nat_lt size (unit.from + unit.len), NhntRange)
    ∷ []

-- the first of them that fails
unfoldable pub unit_fault : ℕ → ℕ → AccessUnit → Option Code
unit_fault size before unit = first_code (unit_checks size before unit)

-- The tables of times and of sync samples as they are written (ISO/IEC 14496-12, 8.6).
use Rattle.std.specs.Prelude.{◌≡◌, ℕ, ℤ, pos, negsuc, ◌+◌, ◌-◌, ◌^◌, ◌⊎◌, Bool, false, not, nat_le, List, [], ◌∷◌, map, codes, All, FitsSigned, Option, Some, None, if◌then◌else◌}
use Rattle.std.specs.List.{list_all}
use Rattle.std.specs.Int.{w32, cast_unsigned, FitsUnsigned}
use Rattle.std.specs.Ordering.{int_eq}
use Rattle.mp_boxes.specs.declared.field.Field.{Field}
use Rattle.mp_boxes.specs.declared.field.Field.TheVariants.{U32}
use Rattle.mp_boxes.specs.Field.{Part, body_bytes}
use Rattle.mp_boxes.specs.Table.{table_fields}
use Rattle.mp_columns.specs.Runs.{runs}
use Rattle.mp_columns.specs.Stretch.{Stretch, count_of}
use Rattle.mp_times.specs.Sync.{is_sync}

-- how many samples, and the value of each of them in 32 bits
abbrev pub run_row : Stretch ℤ → List Field
run_row run = U32 (count_of run) ∷ U32 (cast_unsigned w32 run.first) ∷ []

-- a table of the longest runs of equal values, in version 1 where they are signed
unfoldable pub runs_body : Bool → List ℤ → List ℕ
runs_body signed values = body_bytes (table_fields signed (map run_row (runs values)))

abbrev pub run_table : List ℕ → Bool → List ℤ → Part
run_table kind signed values = record { kind = kind; body = runs_body signed values }

-- the decoding time to sample box (8.6.1.2)
abbrev pub stts : List ℤ → Part
stts durations = run_table (codes "stts") false durations

-- an offset that 32 bits without a sign hold
abbrev pub is_unsigned : ℤ → Bool
is_unsigned (pos offset) = nat_le offset (2 ^ 32 - 1)
is_unsigned (negsuc offset) = false

-- the offsets are signed, in version 1, where one of them isn't such a number
abbrev pub are_signed : List ℤ → Bool
are_signed offsets = not (list_all is_unsigned offsets)

-- the composition time to sample box (8.6.1.3)
abbrev pub offset_table : List ℤ → Part
offset_table offsets = run_table (codes "ctts") (are_signed offsets) offsets

-- which stands only where some offset isn't 0
abbrev pub ctts : List ℤ → Option Part
ctts offsets = if list_all (int_eq (pos 0)) offsets then None else Some (offset_table offsets)

-- the offsets of a track fit 32 bits, all without a sign or all with one
abbrev pub FitOffsets : List ℤ → Type 0
FitOffsets offsets = All (FitsUnsigned w32) offsets ⊎ All (FitsSigned w32) offsets

-- the numbers of the sync samples, the first sample having this number
abbrev pub sync_numbers : ℕ → List ℤ → List ℕ
sync_numbers number [] = []
sync_numbers number (mark ∷ marks) = if is_sync mark then number ∷ sync_numbers (number + 1) marks else sync_numbers (number + 1) marks

-- the number of a sync sample
abbrev pub sync_row : ℕ → List Field
sync_row number = U32 number ∷ []

-- a table of these numbers
unfoldable pub stss_body : List ℕ → List ℕ
stss_body numbers = body_bytes (table_fields false (map sync_row numbers))

-- the sync sample box (8.6.2)
abbrev pub sync_table : List ℤ → Part
sync_table marks = record { kind = codes "stss"; body = stss_body (sync_numbers 1 marks) }

-- which stands only where some sample isn't sync
abbrev pub stss : List ℤ → Option Part
stss marks = if list_all is_sync marks then None else Some (sync_table marks)

-- a mark is 0 or 1
abbrev pub IsMark : ℤ → Type 0
IsMark mark = (mark ≡ pos 0) ⊎ (mark ≡ pos 1)

-- a value that 32 bits hold, without a sign or with one
abbrev pub FitsBits : ℤ → Type 0
FitsBits value = FitsUnsigned w32 value ⊎ FitsSigned w32 value

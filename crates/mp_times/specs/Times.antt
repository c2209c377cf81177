-- The durations and the composition offsets of samples, one item for each sample, and the times that they give (ISO/IEC
-- 14496-12, 8.6.1). What is read is the body of a box.
use Rattle.std.specs.Prelude.{ℕ, ℤ, pos, ◌+ℤ◌, Bool, true, false, List, take, drop, replicate, slice_index_or, sum, Result, ◌==◌, if◌then◌else◌}
use Rattle.std.specs.List.{flat_map, sum_by}
use Rattle.std.specs.Int.{w32, cast_signed}
use Rattle.mp_ports.specs.declared.code.Code.{Code}
use Rattle.mp_ports.specs.Checks.{unless}
use Rattle.mp_boxes.specs.Number.{u32_at}
use Rattle.mp_boxes.specs.FullBox.{first_row, rows_of, version, table_rows, table_fault}

-- the length of a row: a number of samples, and the value of each of them
abbrev pub run_len : ℕ
run_len = 8

-- the value of each sample, in order
abbrev pub per_sample : {A : Type 0} → (ℕ → A) → List (List ℕ) → List A
per_sample value rows = flat_map (λ row. replicate (u32_at row 0) (value (u32_at row 4))) rows

-- so many rows of a body
abbrev pub first_rows : ℕ → List ℕ → List (List ℕ)
first_rows count body = rows_of count run_len (drop first_row body)

-- how many samples the rows speak of
abbrev pub sample_count : List (List ℕ) → ℕ
sample_count rows = sum_by (λ row. u32_at row 0) rows

-- the greatest version of `ctts` is 1, that of `stts` is 0
abbrev pub newest_version : Bool → ℕ
newest_version ctts = if ctts then 1 else 0

-- how many samples a table has an item for
abbrev pub unfolded : Bool → List ℕ → Result ℕ Code
unfolded ctts body = unless (table_fault (newest_version ctts) run_len body) (sample_count (table_rows run_len body))

-- the duration of each sample (8.6.1.2)
abbrev pub stts_of : List ℕ → Result (List ℤ) Code
stts_of body = unless (table_fault (newest_version false) run_len body) (per_sample pos (table_rows run_len body))

-- an offset is signed in version 1 alone
abbrev pub offset : ℕ → ℕ → ℤ
offset version bits = if version == 1 then cast_signed w32 bits else pos bits

-- how much later than it is decoded each sample is composed (8.6.1.3)
abbrev pub ctts_of : List ℕ → Result (List ℤ) Code
ctts_of body = unless (table_fault (newest_version true) run_len body) (per_sample (offset (version body)) (table_rows run_len body))

-- the decode time of the sample before which there are so many: the sum of the durations of those (8.6.1.2)
abbrev pub decode_time : List ℕ → ℕ → ℕ
decode_time durations before = sum (take before durations)

-- the composition time of that sample: its decode time and its offset, where there is none 0 (8.6.1.3)
abbrev pub composition_time : List ℕ → List ℤ → ℕ → ℤ
composition_time durations offsets before = pos (decode_time durations before) +ℤ slice_index_or offsets before (pos 0)

-- The sizes of samples, in bytes (ISO/IEC 14496-12, 8.7.3). What is read is the body of `stsz`, or of `stz2`, which is the compact one.
use Rattle.std.specs.Prelude.{ℕ, ◌+◌, ◌*◌, ◌/◌, ◌%◌, Bool, true, ◌&&◌, ◌==◌, not, nat_lt, if◌then◌else◌, List, [], ◌∷◌, ◌++◌, length, map, take, drop, replicate, flat_map, slice_index}
use Rattle.mp_ports.specs.declared.code.Code.{Code}
use Rattle.mp_ports.specs.declared.code.Code.TheVariants.{TableLength}
use Rattle.mp_boxes.specs.Number.{u16_at, u32_at}
use Rattle.mp_boxes.specs.FullBox.{rows_of, full_box_checks}

-- how many samples there are
abbrev pub sample_count : List ℕ → ℕ
sample_count body = u32_at body 8

-- the one size of all samples; 0 where each has its own
abbrev pub common_size : List ℕ → ℕ
common_size body = u32_at body 4

-- one size for all samples, or a size for each (8.7.3.2)
unfoldable pub stsz_of : List ℕ → List ℕ
stsz_of body =
    if common_size body == 0 then map (λ row. u32_at row 0) (rows_of (sample_count body) 4 (drop 12 body)) else replicate (sample_count body) (common_size body)

-- the faults of `stsz`, in order
abbrev pub stsz_checks : List ℕ → List (Bool × Code)
stsz_checks body = full_box_checks 0 12 body ++ ((common_size body == 0) && nat_lt (length body) (12 + 4 * sample_count body), TableLength) ∷ []

-- the bits of a size in `stz2`
abbrev pub field_bits : List ℕ → ℕ
field_bits body = slice_index body 7

-- the two halves of each byte, the high one first
abbrev pub halves : List ℕ → List ℕ
halves bytes = flat_map (λ byte. byte / 16 ∷ byte % 16 ∷ []) bytes

-- so many sizes of 4, 8 or 16 bits each
abbrev pub fields_of : ℕ → ℕ → List ℕ → List ℕ
fields_of bits count bytes =
    if bits == 4 then take count (halves bytes) else
    (if bits == 8 then take count bytes else map (λ row. u16_at row 0) (rows_of count 2 bytes))

-- a size of 4, 8 or 16 bits for each sample (8.7.3.3)
unfoldable pub stz2_of : List ℕ → List ℕ
stz2_of body = fields_of (field_bits body) (sample_count body) (drop 12 body)

-- the bits are 4, 8 or 16
abbrev pub is_field : ℕ → Bool
is_field bits = if bits == 4 then true else (if bits == 8 then true else bits == 16)

-- the faults of `stz2`, in order
abbrev pub stz2_checks : List ℕ → List (Bool × Code)
stz2_checks body =
    full_box_checks 0 12 body
    ++ (not (is_field (field_bits body)), TableLength)
    ∷ (nat_lt (length body) (12 + (field_bits body * sample_count body + 7) / 8), TableLength)
    ∷ []

-- the size of each sample, by the one of the two boxes that stands there
abbrev pub sizes_of : Bool → List ℕ → List ℕ
sizes_of compact body = if compact then stz2_of body else stsz_of body

-- its faults, in order
abbrev pub size_checks : Bool → List ℕ → List (Bool × Code)
size_checks compact body = if compact then stz2_checks body else stsz_checks body

-- The box of the entries is written as its front and the entries behind it.
use Rattle.std.proofs.Common.{◌≡◌, ℕ, ◌+◌, ◌∷◌, ◌++◌, List, [], length, map, refl, ap, arith}
use Rattle.std.specs.List.{flat_map}
use Rattle.std.specs.Int.{w32, to_be_bytes}
use Rattle.std.proofs.lemmas.List.{append-nil, length-append}
use Rattle.mp_boxes.specs.declared.field.Field.{Field}
use Rattle.mp_boxes.specs.Field.{body_bytes, raw}
use Rattle.mp_boxes.specs.Push.{joined}
use Rattle.mp_boxes.specs.Table.{box_len}
use Rattle.mp_entries.specs.Description.{stsd}

-- an entry as a row
abbrev pub entry_row : List ℕ → List Field
entry_row entry = raw entry ∷ []

-- as fields, the rows are the entries
pub rows_fields : (entries : List (List ℕ)) → flat_map (λ (row : List Field). row) (map entry_row entries) ≡ map raw entries
rows_fields [] = refl
rows_fields (entry ∷ entries) = ap (λ (fields : List Field). raw entry ∷ fields) (rows_fields entries)

-- as bytes, too
pub rows_bytes : (entries : List (List ℕ)) → map body_bytes (map entry_row entries) ≡ entries
rows_bytes [] = refl
rows_bytes (entry ∷ entries) = rw (append-nil entry, rows_bytes entries) refl

pub joined_raw : (entries : List (List ℕ)) → body_bytes (map raw entries) ≡ joined entries
joined_raw [] = refl
joined_raw (entry ∷ entries) = ap (λ (text : List ℕ). entry ++ text) (joined_raw entries)

pub stsd-len : (entries : List (List ℕ)) → box_len (stsd entries) ≡ 16 + length (joined entries)
stsd-len entries =
    let rest = body_bytes (map raw entries) in
    omega (arith, ap length (joined_raw entries), length-append (to_be_bytes w32 0) (to_be_bytes w32 (length entries) ++ rest), length-append (to_be_bytes w32 (length entries)) rest)

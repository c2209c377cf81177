-- The bytes of boxes are as long as the boxes, and rows as so many times their width.
use Rattle.std.proofs.Common.{◌≡◌, ℕ, ◌+◌, ◌*◌, Bool, List, [], ◌∷◌, ◌++◌, length, refl, arith}
use Rattle.std.specs.List.{flat_map, AllByRecursion}
use Rattle.std.specs.Int.{w32, to_be_bytes}
use Rattle.std.proofs.lemmas.List.{length-append}
use Rattle.std.proofs.lemmas.List.Sums.{sum_by-cons}
use Rattle.std.proofs.lemmas.Grind.{flat_map-append}
use Rattle.mp_boxes.specs.declared.field.Field.{Field}
use Rattle.mp_boxes.specs.Field.{Part, body_bytes, box_bytes, boxes_bytes, field_bytes, leaf}
use Rattle.mp_boxes.specs.Table.{HasWidth, box_len, boxes_len, mixed, table_fields}

pub box_bytes-len : (part : Part) → length (box_bytes part) ≡ box_len part
unfolding box_bytes
box_bytes-len part = omega (arith, length-append (to_be_bytes w32 (8 + length part.body) ++ part.kind) part.body, length-append (to_be_bytes w32 (8 + length part.body)) part.kind)

pub boxes_bytes-len : (parts : List Part) → length (boxes_bytes parts) ≡ boxes_len parts
unfolding boxes_bytes
boxes_bytes-len [] = refl
boxes_bytes-len (part ∷ parts) =
    omega (arith, length-append (box_bytes part) (boxes_bytes parts), sum_by-cons box_len part parts, box_bytes-len part, boxes_bytes-len parts)

-- rows of one width
pub rows-len : (width : ℕ) (rows : List (List Field)) → AllByRecursion (HasWidth width) rows → length (body_bytes (flat_map (λ row. row) rows)) ≡ width * length rows
rows-len width [] each = omega arith
rows-len width (row ∷ rows) each =
    let here = each.0 in
    rw (flat_map-append field_bytes row (flat_map (λ r. r) rows)) (omega (arith, length-append (body_bytes row) (body_bytes (flat_map (λ r. r) rows)), here, rows-len width rows each.1))

-- a box of fields and of boxes behind them
pub mixed-len : (kind : List ℕ) (fields : List Field) (parts : List Part) → length kind ≡ 4 → box_len (mixed kind fields parts) ≡ 8 + length (body_bytes fields) + boxes_len parts
mixed-len kind fields parts four = omega (arith, length-append (body_bytes fields) (boxes_bytes parts), boxes_bytes-len parts)

-- a table
pub table-len : (kind : List ℕ) (wide : Bool) (width : ℕ) (rows : List (List Field)) → length kind ≡ 4 → AllByRecursion (HasWidth width) rows → box_len (leaf kind (table_fields wide rows)) ≡ 16 + width * length rows
table-len kind wide width rows four each = omega (arith, rows-len width rows each)

-- Tables and containers that are written: their fields, and their lengths (ISO/IEC 14496-12, 4.2).
use Rattle.std.specs.Prelude.{◌≡◌, ℕ, ◌+◌, ◌-◌, ◌*◌, ◌^◌, ◌<◌, ◌≤◌, Bool, if◌then◌else◌, List, [], ◌∷◌, ◌++◌, length, map, min, sum_by, None}
use Rattle.std.specs.List.{flat_map, AllByRecursion}
use Rattle.mp_boxes.specs.declared.field.Field.{Field}
use Rattle.mp_boxes.specs.declared.field.Field.TheVariants.{U32}
use Rattle.mp_boxes.specs.Field.{Part, body_bytes, box_bytes, boxes_bytes, version_and_flags}
use Rattle.mp_boxes.specs.FullBox.{first_row, flags, row_count, rows_of, table_fault, table_rows, version}

-- rows of fields, behind some other fields
abbrev pub with_rows : List Field → List (List Field) → List Field
with_rows front rows = front ++ flat_map (λ row. row) rows

-- a table: version and flags, the number of rows, the rows
abbrev pub table_fields : Bool → List (List Field) → List Field
table_fields wide rows = with_rows (version_and_flags wide 0 ∷ U32 (length rows) ∷ []) rows

-- a box of fields, and of boxes behind them
abbrev pub mixed : List ℕ → List Field → List Part → Part
mixed kind fields parts = record { kind = kind; body = body_bytes fields ++ boxes_bytes parts }

-- a row has so many bytes
abbrev pub HasWidth : ℕ → List Field → Type 0
HasWidth width row = length (body_bytes row) ≡ width

-- the length of a box: its size, its type and its body
abbrev pub box_len : Part → ℕ
box_len part = 4 + length part.kind + length part.body

-- the length of boxes, one after another
abbrev pub boxes_len : List Part → ℕ
boxes_len parts = sum_by box_len parts

-- a number in 64 bits, the last of which stands for all that don't fit
abbrev pub capped : ℕ → ℕ
capped len = min len (2 ^ 64 - 1)

-- the box has this length
abbrev pub HasLen : ℕ → Part → Type 0
HasLen len part = len ≡ capped (box_len part)

-- the bytes of boxes are as long as the boxes
pub record BoxesHaveLengths : Type 0 where
  pub one : (part : Part) → length (box_bytes part) ≡ box_len part
  pub all : (parts : List Part) → length (boxes_bytes parts) ≡ boxes_len parts

-- a body has this table: no fault, version, flags, and these rows
pub record HasTable (newest width : ℕ) (wide : Bool) (rows : List (List Field)) (body : List ℕ) : Type 0 where
  pub fault : table_fault newest width body ≡ None
  pub version_is : version body ≡ (if wide then 1 else 0)
  pub flags_are : flags body ≡ 0
  pub count : row_count body ≡ length rows
  pub len : length body ≡ first_row + width * length rows
  pub rows_are : table_rows width body ≡ map body_bytes rows

-- a table that is written is read; its rows are as long as so many of their width, and are written one after another
pub record TablesAreRead : Type 0 where
  pub table : (newest width : ℕ) (wide : Bool) (rows : List (List Field)) → AllByRecursion (HasWidth width) rows → length rows < 2 ^ 32 → (if wide then 1 else 0) ≤ newest
      → HasTable newest width wide rows (body_bytes (table_fields wide rows))
  pub rows : (width : ℕ) (rows : List (List Field)) → AllByRecursion (HasWidth width) rows → rows_of (length rows) width (flat_map body_bytes rows) ≡ map body_bytes rows
  pub len : (width : ℕ) (rows : List (List Field)) → AllByRecursion (HasWidth width) rows → length (flat_map body_bytes rows) ≡ width * length rows
  pub text : (rows : List (List Field)) → body_bytes (flat_map (λ row. row) rows) ≡ flat_map body_bytes rows

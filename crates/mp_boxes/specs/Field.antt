-- Boxes that are written: fields, most significant byte first, and boxes in boxes (ISO/IEC 14496-12, 4.2).
use Rattle.std.specs.Prelude.{ℕ, ◌+◌, ◌^◌, Bool, true, false, if◌then◌else◌, List, [], ◌∷◌, ◌++◌, length, replicate, Option, Some, None}
use Rattle.std.specs.List.{flat_map}
use Rattle.std.specs.Int.{w16, w32, w64, to_be_bytes}
use Rattle.mp_boxes.specs.declared.field.Field.{Field}
use Rattle.mp_boxes.specs.declared.field.Field.TheVariants.{U16, U32, U64, Bytes}

-- the bytes of one field
abbrev pub field_bytes : Field → List ℕ
field_bytes (U16 n) = to_be_bytes w16 n
field_bytes (U32 n) = to_be_bytes w32 n
field_bytes (U64 n) = to_be_bytes w64 n
field_bytes (Bytes bytes) = bytes.now

-- a time: 64 bits in version 1 of its box, 32 in version 0
abbrev pub time : Bool → ℕ → Field
time true ticks = U64 ticks
time false ticks = U32 ticks

-- version and flags of a full box, whose version is 1 where it is wide, else 0
abbrev pub version_and_flags : Bool → ℕ → Field
version_and_flags wide flags = U32 ((if wide then 2 ^ 24 else 0) + flags)

-- a field of these bytes, wherever they stand
abbrev pub raw : List ℕ → Field
raw bytes = Bytes (record { ref_ptr = (0, 0); now = bytes })

-- so many reserved bytes
abbrev pub zeros : ℕ → Field
zeros count = raw (replicate count 0)

-- the bytes of some fields
abbrev pub body_bytes : List Field → List ℕ
body_bytes fields = flat_map field_bytes fields

-- a box by its type and its body
pub record Part : Type 0 where
  pub kind : List ℕ
  pub body : List ℕ

-- the bytes of a box of fewer than 2^32 bytes
unfoldable pub box_bytes : Part → List ℕ
box_bytes part = to_be_bytes w32 (8 + length part.body) ++ part.kind ++ part.body

-- boxes, one after another
unfoldable pub boxes_bytes : List Part → List ℕ
boxes_bytes [] = []
boxes_bytes (part ∷ parts) = box_bytes part ++ boxes_bytes parts

-- a box of fields
abbrev pub leaf : List ℕ → List Field → Part
leaf kind fields = record { kind = kind; body = body_bytes fields }

-- a box of boxes
abbrev pub container : List ℕ → List Part → Part
container kind parts = record { kind = kind; body = boxes_bytes parts }

-- a box that stands only where it has content
abbrev pub optional : Option Part → List Part
optional None = []
optional (Some part) = part ∷ []

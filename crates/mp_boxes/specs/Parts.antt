-- Boxes that are written one after another, as they are read.
use Rattle.std.specs.Prelude.{◌≡◌, ℕ, ◌+◌, ◌^◌, ◌<◌, Bool, Ok, false, List, [], ◌∷◌, ◌++◌, length, codes}
use Rattle.std.specs.List.{AllByRecursion}
use Rattle.std.specs.Str.{bytes_eq}
use Rattle.std.specs.Int.{w32, to_be_bytes}
use Rattle.mp_boxes.specs.Field.{Part, boxes_bytes}
use Rattle.mp_boxes.specs.Boxes.{Box, IsCut, boxes}

-- a compact type: four bytes, and not `uuid`, behind which an extended type stands
pub record HasCompactType (part : Part) : Type 0 where
  pub four : length part.kind ≡ 4
  pub plain : bytes_eq part.kind (codes "uuid") ≡ false

-- the box that a part is at that place
abbrev pub box_of : ℕ → Part → Box
box_of place part = record { kind = part.kind; header = to_be_bytes w32 (8 + length part.body) ++ part.kind; body = part.body; place = place }

-- the boxes that these parts are, the first at `place`
abbrev pub listed : ℕ → List Part → List Box
listed place [] = []
listed place (part ∷ parts) = box_of place part ∷ listed (place + (8 + length part.body)) parts

-- boxes that are written one after another are read as just these boxes, and in front of a text that is cut into others
pub record PartsAreRead : Type 0 where
  pub alone : (top : Bool) (place : ℕ) (parts : List Part) → AllByRecursion HasCompactType parts → length (boxes_bytes parts) < 2 ^ 32
      → boxes top place (boxes_bytes parts) ≡ Ok (listed place parts)
  pub in_front : (top : Bool) (place : ℕ) (parts : List Part) (after : List ℕ) (more : List Box) → AllByRecursion HasCompactType parts → length (boxes_bytes parts) < 2 ^ 32
      → IsCut top (place + length (boxes_bytes parts)) after more [] → IsCut top place (boxes_bytes parts ++ after) (listed place parts ++ more) []

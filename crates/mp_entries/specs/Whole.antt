-- Boxes that are whole, as they are written and as they are changed (ISO/IEC 14496-12, 4.2).
use Rattle.std.specs.Prelude.{◌≡◌, ℕ, ◌+◌, ◌<◌, ◌^◌, false, List, ◌++◌, length, take, Ok}
use Rattle.mp_boxes.specs.declared.head.TopHead.{TopHead}
use Rattle.mp_boxes.specs.Boxes.{IsBytes}
use Rattle.mp_boxes.specs.Field.{Part, box_bytes}
use Rattle.mp_boxes.specs.Head.{head_at}
use Rattle.mp_boxes.specs.Parts.{HasCompactType}

-- the head of a whole box stays where its body becomes another of the same length
abbrev pub HeadStays : Type 0
HeadStays = (text body : List ℕ) (head : TopHead) → IsBytes text → head_at false text ≡ Ok head → head.len ≡ length text → head.head + length body ≡ length text
    → head_at false (take head.head text ++ body) ≡ Ok head

-- a box that is written is whole, with a header of 8 bytes
abbrev pub WrittenIsWhole : Type 0
WrittenIsWhole = (part : Part) → HasCompactType part → 8 + length part.body < 2 ^ 32 → head_at false (box_bytes part) ≡ Ok (record { kind = part.kind; head = 8; len = 8 + length part.body })

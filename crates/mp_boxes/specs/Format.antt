-- Boxes without their places: the parts of a text, and a box that is read as it was written.
use Rattle.std.specs.Prelude.{◌≡◌, ℕ, ◌^◌, ◌<◌, false, List, [], ◌∷◌, ◌++◌, length, map, filter, Option, Some, None, Result, Ok}
use Rattle.std.specs.List.{AllByRecursion}
use Rattle.std.specs.Str.{bytes_eq}
use Rattle.mp_ports.specs.declared.fault.Bad.{Bad}
use Rattle.mp_ports.specs.Checks.{◌>>=◌}
use Rattle.mp_boxes.specs.Boxes.{Box, IsCut, boxes}
use Rattle.mp_boxes.specs.Field.{Part, boxes_bytes}
use Rattle.mp_boxes.specs.Parts.{HasCompactType, listed}

-- a box without its place and the spelling of its header
abbrev pub part_of : Box → Part
part_of box = record { kind = box.kind; body = box.body }

-- the parts of a text, or its first fault
abbrev pub parts_of : List ℕ → Result (List Part) Bad
parts_of text = boxes false 0 text >>= λ found. Ok (map part_of found)

-- the bodies of the parts of that type, in order
abbrev pub bodies : List ℕ → List Part → List (List ℕ)
bodies kind parts = map (λ part. part.body) (filter (λ part. bytes_eq part.kind kind) parts)

-- one and no other
abbrev pub only_of : List (List ℕ) → Option (List ℕ)
only_of [] = None
only_of (body ∷ []) = Some body
only_of (body ∷ second ∷ bodies) = None

-- the body of the one part of that type
abbrev pub only : List ℕ → List Part → Option (List ℕ)
only kind parts = only_of (bodies kind parts)

-- each value that fits is read of the box that is written for it
pub record IsFormat {V : Type 0} (part : V → Part) (read : ℕ → List ℕ → Result V Bad) (Fits : V → Type 0) : Type 0 where
  pub back : (value : V) (base : ℕ) → Fits value → read base (part value).body ≡ Ok value

-- the parts of boxes that are written one after another are just these, with those of what is behind them; a text has the same parts
-- wherever it stands, and the boxes that some parts are have these parts
pub record PartsAreFound : Type 0 where
  pub alone : (parts : List Part) → AllByRecursion HasCompactType parts → length (boxes_bytes parts) < 2 ^ 32 → parts_of (boxes_bytes parts) ≡ Ok parts
  pub in_front : (parts : List Part) (after : List ℕ) (more : List Box) → AllByRecursion HasCompactType parts → length (boxes_bytes parts) < 2 ^ 32
      → IsCut false (length (boxes_bytes parts)) after more [] → parts_of (boxes_bytes parts ++ after) ≡ Ok (parts ++ map part_of more)
  pub anywhere : (place : ℕ) (text : List ℕ) (found : List Box) → boxes false place text ≡ Ok found → parts_of text ≡ Ok (map part_of found)
  pub same : (place : ℕ) (parts : List Part) → map part_of (listed place parts) ≡ parts

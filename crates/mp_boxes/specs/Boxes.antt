-- A text as boxes, one after another (ISO/IEC 14496-12, 4.2).
use Rattle.std.specs.Prelude.{◌≡◌, ℕ, zero, suc, ◌+◌, ◌-◌, ◌<◌, Bool, false, List, [], ◌∷◌, ◌++◌, length, slice_index, take, drop, Some, Result, Ok}
use Rattle.mp_ports.specs.declared.code.Code.{Code}
use Rattle.mp_ports.specs.declared.fault.Bad.{Bad}
use Rattle.mp_ports.specs.Checks.{bad_at, ◌>>=◌, placed}
use Rattle.mp_boxes.specs.declared.head.TopHead.{TopHead}
use Rattle.mp_boxes.specs.Header.{IsHeader}
use Rattle.mp_boxes.specs.Head.{IsWhole, head_fault, head_at}

-- each is a byte
abbrev pub IsBytes : List ℕ → Type 0
IsBytes bytes = (at : ℕ) → slice_index bytes at < 256

-- a box: its type, the bytes of its header and of its body, and the place of its first byte in the file
pub record Box : Type 0 where
  pub kind : List ℕ
  pub header : List ℕ
  pub body : List ℕ
  pub place : ℕ

-- all its bytes
abbrev pub whole_box : Box → List ℕ
whole_box box = box.header ++ box.body

-- the place of its body
abbrev pub body_place : Box → ℕ
body_place box = box.place + length box.header

-- the text is these boxes, the first at `place`, and then `rest`
abbrev pub IsCut : Bool → ℕ → List ℕ → List Box → List ℕ → Type 0
IsCut top place text [] rest = text ≡ rest
IsCut top place text (box ∷ boxes) rest =
    (after : List ℕ) × IsHeader top box.kind (length box.body) after box.header × (text ≡ box.header ++ (box.body ++ after)) × (box.place ≡ place)
    × IsCut top (place + length box.header + length box.body) after boxes rest

-- the boxes that are left from `at` on in a container's body that stands at `base`
abbrev pub AreLeft : ℕ → ℕ → List ℕ → List Box → Type 0
AreLeft base at bytes left = IsCut false (base + at) (drop at bytes) left []

-- the bytes of the box alone are one whole box, of its type and with its header
pub record IsOnItsOwn (box : Box) : Type 0 where
  pub whole : IsWhole (whole_box box)
  pub kind : whole.head.kind ≡ box.kind
  pub header : whole.head.head ≡ length box.header

-- the text is some boxes, and then the box whose head has that fault
pub record IsFirstFault (top : Bool) (place : ℕ) (text : List ℕ) (bad : Bad) : Type 0 where
  pub before : List Box
  pub rest : List ℕ
  pub cut : IsCut top place text before rest
  pub more : 0 < length rest
  pub code : Code
  pub fault : head_fault top rest (length rest) ≡ Some code
  pub bad_is : bad ≡ bad_at code (place + (length text - length rest))

-- the box of that head at the front of a text
abbrev pub front_box : TopHead → ℕ → List ℕ → Box
front_box head place text = record { kind = head.kind; header = take head.head text; body = drop head.head (take head.len text); place = place }

-- the boxes of a text, read from its front, or the first fault: at most as many as `most`, and a box has 8 bytes and more
unfoldable pub walk : ℕ → Bool → ℕ → List ℕ → Result (List Box) Bad
walk zero top place text = Ok []
walk (suc most) top place [] = Ok []
walk (suc most) top place (byte ∷ bytes) = do
  head ← placed place (head_at top (byte ∷ bytes))
  boxes ← walk most top (place + head.len) (drop head.len (byte ∷ bytes))
  Ok (front_box head place (byte ∷ bytes) ∷ boxes)

-- the boxes of a text that stands at `place`, or its first fault
abbrev pub boxes : Bool → ℕ → List ℕ → Result (List Box) Bad
boxes top place text = walk (length text) top place text

-- a container's body that stands at `base` is whole boxes, is read as these, and they are left where a walk begins
pub record IsContainer (base : ℕ) (bytes : List ℕ) : Type 0 where
  pub children : List Box
  pub cut : IsCut false base bytes children []
  pub left : AreLeft base 0 bytes children
  pub read : boxes false base bytes ≡ Ok children

-- The head of a box as it is read, and the faults that it can have, in order (ISO/IEC 14496-12, 4.2).
use Rattle.std.specs.Prelude.{◌≡◌, ℕ, ◌+◌, ◌≤◌, Bool, false, List, [], ◌∷◌, length, drop, Option, Some, None, Result, Ok, codes, nat_lt, ◌==◌, if◌then◌else◌, not, ◌&&◌}
use Rattle.std.specs.Str.{bytes_eq}
use Rattle.mp_ports.specs.declared.code.Code.{Code}
use Rattle.mp_ports.specs.declared.code.Code.TheVariants.{BoxCut, BoxSize}
use Rattle.mp_ports.specs.declared.fault.Bad.{Bad}
use Rattle.mp_ports.specs.Checks.{first_code, placed, unless, ◌>>=◌}
use Rattle.mp_boxes.specs.declared.head.TopHead.{TopHead}
use Rattle.mp_boxes.specs.declared.head.BoxHead.{BoxHead}
use Rattle.mp_boxes.specs.Number.{u32_at, u64_at, kind_at}

-- the length of the header: a size of 1 is followed by 8 bytes, the type `uuid` by 16
abbrev pub header_len : List ℕ → ℕ
header_len front = 8 + (if u32_at front 0 == 1 then 8 else 0) + (if bytes_eq (kind_at front 4) (codes "uuid") then 16 else 0)

-- the length of the box: a size of 1 stands behind the type, a size of 0 is all that is left
abbrev pub box_size : List ℕ → ℕ → ℕ
box_size front rest = if u32_at front 0 == 1 then u64_at front 8 else (if u32_at front 0 == 0 then rest else u32_at front 0)

-- the first fault of the head that begins with `front`, where `rest` bytes are left
abbrev pub head_fault : Bool → List ℕ → ℕ → Option Code
head_fault top front rest =
    first_code
    ((nat_lt rest 8, BoxCut)
    ∷ (nat_lt rest (header_len front), BoxCut)
    ∷ ((u32_at front 0 == 0) && not top, BoxSize)
    ∷ (nat_lt (box_size front rest) (header_len front), BoxSize)
    ∷ (nat_lt rest (box_size front rest), BoxCut)
    ∷ [])

-- the head, or its first fault
abbrev pub head_from : Bool → List ℕ → ℕ → Result TopHead Code
head_from top front rest =
    unless (head_fault top front rest) (record { kind = kind_at front 4; head = header_len front; len = box_size front rest })

-- the head at the front of all that is left
abbrev pub head_at : Bool → List ℕ → Result TopHead Code
head_at top text = head_from top text (length text)

-- one whole box, as it stands inside a container
pub record IsWhole (bytes : List ℕ) : Type 0 where
  pub head : TopHead
  pub read : head_at false bytes ≡ Ok head
  pub ends : head.len ≡ length bytes

-- the box of that head, which begins at `at`
abbrev pub box_head : ℕ → TopHead → BoxHead
box_head at head = record { kind = head.kind; place = at; head = head.head; len = head.len }

-- the box that begins at `at` in a container's body that stands at `base`, unless the body ends there
abbrev pub next_head : ℕ → List ℕ → ℕ → Result (Option BoxHead) Bad
next_head base bytes at =
    if at == length bytes then Ok None else (placed (base + at) (head_at false (drop at bytes)) >>= λ head. Ok (Some (box_head at head)))

-- the box begins at `at` and ends in these bytes, and its header ends in it
pub record IsInside (bytes : List ℕ) (at : ℕ) (box : BoxHead) : Type 0 where
  pub begins : box.place ≡ at
  pub ends : at + box.len ≤ length bytes
  pub header : box.head ≤ box.len
  pub some : 8 ≤ box.head

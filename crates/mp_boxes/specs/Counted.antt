-- Boxes behind their number (ISO/IEC 14496-12, 8.5.2 and 8.7.2).
use Rattle.std.specs.Prelude.{◌≡◌, ◌≤◌, ℕ, ◌+◌, Bool, false, ◌||◌, not, nat_lt, ◌==◌, List, [], ◌∷◌, length, drop, Option, Some, Result, Ok, Err}
use Rattle.std.specs.List.{AllByRecursion, list_any}
use Rattle.mp_ports.specs.declared.code.Code.TheVariants.{TableLength}
use Rattle.mp_ports.specs.declared.fault.Bad.{Bad}
use Rattle.mp_ports.specs.Checks.{fault_at, first_code}
use Rattle.mp_boxes.specs.Boxes.{Box, IsContainer, boxes}
use Rattle.mp_boxes.specs.FullBox.{first_row, row_count}

-- the body has fewer bytes than that
abbrev pub is_shorter : ℕ → Box → Bool
is_shorter least box = nat_lt (length box.body) least

-- the fault, at `place`, of these boxes, which are to be so many with bodies of at least so many bytes
abbrev pub number_fault : ℕ → ℕ → ℕ → List Box → Option Bad
number_fault count least place children = fault_at place (first_code ((list_any (is_shorter least) children || not (length children == count), TableLength) ∷ []))

-- the first fault of the boxes that stand at `base` behind their number, in the box at `place`
abbrev pub counted_fault : ℕ → ℕ → ℕ → ℕ → List ℕ → Option Bad
counted_fault count least place base bytes = by (boxes false base bytes)
  where
    by : Result (List Box) Bad → Option Bad
    by (Ok children) = number_fault count least place children
    by (Err bad) = Some bad

-- the boxes that stand at `base` are whole, so many, and each body has at least so many bytes
pub record IsCounted (count least base : ℕ) (bytes : List ℕ) : Type 0 where
  pub boxes : IsContainer base bytes
  pub number : length boxes.children ≡ count
  pub long : AllByRecursion (λ box. least ≤ length box.body) boxes.children

-- the first fault of the boxes behind version, flags and their number, in the body of the box at `place`, which stands at `base`
abbrev pub numbered_fault : ℕ → ℕ → ℕ → List ℕ → Option Bad
numbered_fault least place base body = counted_fault (row_count body) least place (base + first_row) (drop first_row body)

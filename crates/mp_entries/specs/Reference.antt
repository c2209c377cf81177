-- The data references of a track: where its data is (ISO/IEC 14496-12, 8.7.2).
use Rattle.std.specs.Prelude.{◌≡◌, ℕ, ◌+◌, ◌%◌, Bool, true, false, ◌==◌, List, [], ◌∷◌, drop, map, Option, Result, Ok, codes}
use Rattle.mp_ports.specs.declared.fault.Bad.{Bad}
use Rattle.mp_ports.specs.Checks.{fault_at, first_some, unless, ◌>>=◌}
use Rattle.mp_boxes.specs.declared.field.Field.TheVariants.{U32}
use Rattle.mp_boxes.specs.Boxes.{Box, boxes}
use Rattle.mp_boxes.specs.Counted.{numbered_fault}
use Rattle.mp_boxes.specs.Field.{Part, leaf, version_and_flags}
use Rattle.mp_boxes.specs.FullBox.{first_field, first_row, flags, table_fault}
use Rattle.mp_boxes.specs.Table.{mixed}

-- the checks, in order, of the references in the box at `place`, whose body stands at `base`: version, flags and number are
-- there; the boxes are whole, so many, and each is a full box
abbrev pub references_fault : ℕ → ℕ → List ℕ → Option Bad
references_fault place base body = first_some (fault_at place (table_fault 0 0 body) ∷ numbered_fault first_field place base body ∷ [])

-- whether the data is in this file: flag 1
abbrev pub is_local : Box → Bool
is_local reference = flags reference.body % 2 == 1

-- for each of these boxes, which stand at `base`, whether its data is in this file
abbrev pub local_references : ℕ → List ℕ → Result (List Bool) Bad
local_references base bytes = boxes false base bytes >>= λ references. Ok (map is_local references)

-- for each reference, whether its data is in this file, or the first fault
unfoldable pub dref_of : ℕ → ℕ → List ℕ → Result (List Bool) Bad
dref_of place base body = unless (references_fault place base body) (drop first_row body) >>= local_references (base + first_row)

-- the reference that is written: flag 1, and so there is no location
abbrev pub url : Part
url = leaf (codes "url ") (version_and_flags false 1 ∷ [])

-- the box that is written: version and flags, the number of references, the one reference
abbrev pub dref : Part
dref = mixed (codes "dref") (version_and_flags false 0 ∷ U32 1 ∷ []) (url ∷ [])

-- what is written is read: the data is in this file
abbrev pub ReferencesAreRead : Type 0
ReferencesAreRead = (place base : ℕ) → dref_of place base dref.body ≡ Ok (true ∷ [])

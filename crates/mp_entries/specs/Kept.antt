-- The entry that is kept of a file's, and its faults in order (ISO/IEC 14496-12, 8.5.2 and 8.7.2).
use Rattle.std.specs.Prelude.{◌≡◌, ℕ, ◌+◌, ◌-◌, Bool, true, false, not, ◌||◌, nat_lt, ◌==◌, List, [], ◌∷◌, ◌++◌, length, take, drop, slice_index_or, Option, Result, Ok}
use Rattle.std.specs.Int.{w16, to_be_bytes}
use Rattle.mp_ports.specs.declared.code.Code.{Code}
use Rattle.mp_ports.specs.declared.code.Code.TheVariants.{TableLength, Encrypted, EntryIndex, External}
use Rattle.mp_ports.specs.declared.fault.Bad.{Bad}
use Rattle.mp_ports.specs.Checks.{first_code, unless, ◌>>=◌, placed}
use Rattle.mp_boxes.specs.Boxes.{IsBytes}
use Rattle.mp_boxes.specs.Head.{head_at}
use Rattle.mp_entries.specs.Entry.{IsEntry, is_protected, reference}

-- the faults of an entry of that type whose body begins at `from`, in order; `local` tells which data references are in the file
abbrev pub entry_fault : List ℕ → ℕ → List ℕ → List Bool → Option Code
entry_fault kind from bytes local =
    first_code
    ((nat_lt (length bytes) (from + 8), TableLength)
    ∷ (is_protected kind, Encrypted)
    ∷ ((reference bytes from == 0) || nat_lt (length local) (reference bytes from), EntryIndex)
    ∷ (not (slice_index_or local (reference bytes from - 1) false), External)
    ∷ [])

-- the same entry with the first data reference
abbrev pub with_first_reference : ℕ → List ℕ → List ℕ
with_first_reference from bytes = take (from + 6) bytes ++ to_be_bytes w16 1 ++ drop (from + 8) bytes

-- the entry that is kept of the one in the box at `base`, or its first fault there
abbrev pub kept_entry : ℕ → List ℕ → List Bool → Result (List ℕ) Bad
kept_entry base bytes local =
    placed base (head_at false bytes >>= λ head. unless (entry_fault head.kind head.head bytes local) (with_first_reference head.head bytes))

-- an entry of the first data reference is kept as it is, where that data is in the file itself
abbrev pub EntriesAreKept : Type 0
EntriesAreKept = (base : ℕ) (bytes : List ℕ) (local : List Bool) → IsBytes bytes → IsEntry bytes → slice_index_or local 0 false ≡ true → kept_entry base bytes local ≡ Ok bytes

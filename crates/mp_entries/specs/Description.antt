-- The sample entries of a track (ISO/IEC 14496-12, 8.5.2).
use Rattle.std.specs.Prelude.{◌≡◌, ℕ, ◌+◌, ◌≤◌, Bool, true, false, nat_lt, List, [], ◌∷◌, length, drop, map, slice_index_or, Option, Result, Ok, codes}
use Rattle.std.specs.List.{AllByRecursion}
use Rattle.mp_ports.specs.declared.code.Code.TheVariants.{EntryLimit}
use Rattle.mp_ports.specs.declared.fault.Bad.{Bad}
use Rattle.mp_ports.specs.Checks.{fault_at, first_code, first_some, unless, ◌>>=◌}
use Rattle.mp_boxes.specs.declared.field.Field.TheVariants.{U32}
use Rattle.mp_boxes.specs.Boxes.{Box, IsBytes, boxes, whole_box}
use Rattle.mp_boxes.specs.Counted.{numbered_fault}
use Rattle.mp_boxes.specs.Field.{Part, leaf, raw, version_and_flags}
use Rattle.mp_boxes.specs.FullBox.{first_row, row_count, table_fault}
use Rattle.mp_boxes.specs.Head.{IsWhole}
use Rattle.mp_entries.specs.Entry.{IsEntry}
use Rattle.mp_entries.specs.Kept.{kept_entry}

-- as many entries as a track may have
abbrev pub most_entries : ℕ
most_entries = 255

-- the least body of an entry: six reserved bytes, and the index of its data reference
abbrev pub least_entry : ℕ
least_entry = 8

-- the checks, in order, of the entries in the box at `place`, whose body stands at `base`: version, flags and number are there;
-- there are not too many; the boxes are whole, so many, and none is too short
abbrev pub description_fault : ℕ → ℕ → List ℕ → Option Bad
description_fault place base body =
    first_some
    (fault_at place (table_fault 0 0 body)
    ∷ fault_at 0 (first_code ((nat_lt most_entries (row_count body), EntryLimit) ∷ []))
    ∷ numbered_fault least_entry place base body
    ∷ [])

-- the entries that are kept of these boxes, or the first fault, entry by entry; `local` tells which data references are in the file
abbrev pub kept_entries : List Bool → List Box → Result (List (List ℕ)) Bad
kept_entries local [] = Ok []
kept_entries local (entry ∷ entries) = do
  kept ← kept_entry entry.place (whole_box entry) local
  others ← kept_entries local entries
  Ok (kept ∷ others)

-- the entries in these boxes, which stand at `base`
abbrev pub entries_in : ℕ → List Bool → List ℕ → Result (List (List ℕ)) Bad
entries_in base local bytes = boxes false base bytes >>= kept_entries local

-- the entries, each as it is kept, or the first fault
unfoldable pub stsd_of : ℕ → ℕ → List Bool → List ℕ → Result (List (List ℕ)) Bad
stsd_of place base local body = unless (description_fault place base body) (drop first_row body) >>= entries_in (base + first_row) local

-- the box that is written: version and flags, the number of entries, the entries
abbrev pub stsd : List (List ℕ) → Part
stsd entries = leaf (codes "stsd") (version_and_flags false 0 ∷ U32 (length entries) ∷ map raw entries)

-- entries that can be written
pub record AreEntries (entries : List (List ℕ)) : Type 0 where
  pub few : length entries ≤ most_entries
  pub bytes : AllByRecursion IsBytes entries
  pub entry : AllByRecursion IsEntry entries

-- what is written is read, where the data of the first reference is in the file
abbrev pub DescriptionsAreRead : Type 0
DescriptionsAreRead = (place base : ℕ) (local : List Bool) (entries : List (List ℕ)) → slice_index_or local 0 false ≡ true → AreEntries entries → stsd_of place base local (stsd entries).body ≡ Ok entries

-- what is kept of a whole box of bytes is an entry, and of a table there are not too many
pub record KeptAreEntries : Type 0 where
  pub each : (base : ℕ) (bytes : List ℕ) (local : List Bool) (kept : List ℕ) → IsBytes bytes → IsWhole bytes → kept_entry base bytes local ≡ Ok kept → IsEntry kept
  pub few : (place base : ℕ) (local : List Bool) (body : List ℕ) (kept : List (List ℕ)) → stsd_of place base local body ≡ Ok kept → length kept ≤ most_entries

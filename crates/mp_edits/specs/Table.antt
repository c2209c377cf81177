-- The body of the edit list box: its faults in order, and its segments (ISO/IEC 14496-12, 8.6.6).
use Rattle.std.specs.Prelude.{ℕ, ◌^◌, Bool, not, nat_lt, nat_le, ◌==◌, List, [], ◌∷◌, ◌++◌, map, Option, Some, None, Result}
use Rattle.std.specs.List.{list_any}
use Rattle.mp_ports.specs.declared.code.Code.{Code}
use Rattle.mp_ports.specs.declared.code.Code.TheVariants.{EditFlags, DurationLimit, StartLimit, SegmentLimit}
use Rattle.mp_ports.specs.declared.fault.Bad.{Bad}
use Rattle.mp_ports.specs.Checks.{fault_at, first_code, first_some, unless}
use Rattle.mp_timeline.specs.declared.segment.Segment.{Segment}
use Rattle.mp_boxes.specs.FullBox.{first_field, flags, full_box_checks, row_count, table_checks, table_rows, version}
use Rattle.mp_edits.specs.declared.entry.EditEntry.{EditEntry}
use Rattle.mp_edits.specs.Entry.{entry_len, entry_of, entry_fault, segment_of}
use Rattle.mp_edits.specs.Segments.{most_segments, total, starts_late}

-- version 1 has 64 bits for a time
abbrev pub is_wide : List ℕ → Bool
is_wide body = version body == 1

-- the entries
abbrev pub entries : List ℕ → List EditEntry
entries body = map (entry_of (is_wide body)) (table_rows (entry_len (is_wide body)) body)

-- what the entries show
abbrev pub segments : List ℕ → List Segment
segments body = map segment_of (entries body)

-- the faults of the table, in order: a full box of version 0 or 1, no flags, all entries
abbrev pub elst_checks : List ℕ → List (Bool × Code)
elst_checks body =
    full_box_checks 1 first_field body
    ++ (not (flags body == 0), EditFlags)
    ∷ table_checks 1 (entry_len (is_wide body)) body

-- the fault of too many entries
abbrev pub count_checks : List ℕ → List (Bool × Code)
count_checks body = (nat_lt most_segments (row_count body), SegmentLimit) ∷ []

-- the fault of the first entry that has one
abbrev pub entries_fault : List EditEntry → Option Code
entries_fault entries = first_some (map entry_fault entries)

-- the faults of all segments together, in order
abbrev pub limit_checks : List Segment → List (Bool × Code)
limit_checks segments =
    (nat_le (2 ^ 62) (total segments), DurationLimit)
    ∷ (list_any starts_late segments, StartLimit)
    ∷ []

-- the faults of an edit list in the box at `base`, in order; those of a limit have no place
abbrev pub elst_faults : ℕ → List ℕ → List (Option Bad)
elst_faults base body =
    fault_at base (first_code (elst_checks body))
    ∷ fault_at 0 (first_code (count_checks body))
    ∷ fault_at base (entries_fault (entries body))
    ∷ fault_at 0 (first_code (limit_checks (segments body)))
    ∷ []

-- an edit list; one without entries is none
abbrev pub edits_of : List Segment → Option (List Segment)
edits_of [] = None
edits_of (segment ∷ segments) = Some (segment ∷ segments)

-- the edit list of a box's body, or its first fault
abbrev pub elst_of : ℕ → List ℕ → Result (Option (List Segment)) Bad
elst_of base body = unless (first_some (elst_faults base body)) (edits_of (segments body))

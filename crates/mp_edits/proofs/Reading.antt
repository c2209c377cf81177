-- Entries are read one after another.
use Rattle.std.proofs.Common.{◌≡◌, ℕ, suc, ◌+◌, ◌-◌, ◌*◌, ◌<◌, ◌≤◌, Bool, List, [], ◌∷◌, ◌++◌, take, drop, map, Option, Some, None, refl, sym, ap, ◌∙◌, append_assoc, arith}
use Rattle.std.proofs.lemmas.List.{drop-drop, append-nil}
use Rattle.mp_ports.specs.declared.code.Code.{Code}
use Rattle.mp_ports.specs.Checks.{first_some}
use Rattle.mp_timeline.specs.declared.segment.Segment.{Segment}
use Rattle.mp_boxes.specs.FullBox.{rows_of}
use Rattle.mp_edits.specs.declared.entry.EditEntry.{EditEntry}
use Rattle.mp_edits.specs.Entry.{entry_len, entry_of, entry_fault, segment_of}
use Rattle.mp_edits.specs.Table.{entries_fault}

-- the entry at i
abbrev pub entry_at : Bool → ℕ → List ℕ → EditEntry
entry_at wide i bytes = entry_of wide (take (entry_len wide) (drop (entry_len wide * i) bytes))

-- the bytes from a place up to the next row
pub entry_is : (wide : Bool) (bytes : List ℕ) (entry : EditEntry) (len i : ℕ) → len ≡ entry_len wide → entry ≡ entry_of wide (take (len * i + len - len * i) (drop (len * i) bytes))
    → entry ≡ entry_at wide i bytes
entry_is wide bytes entry len i l is =
    let one : len * i + len - len * i ≡ len = omega arith in
    is ∙ (ap (λ (n : ℕ). entry_of wide (take n (drop (len * i) bytes))) one ∙ ap (λ (n : ℕ). entry_of wide (take n (drop (n * i) bytes))) l)

-- the entries from the one at i on
abbrev pub entries_from : Bool → ℕ → ℕ → List ℕ → List EditEntry
entries_from wide count i bytes = map (entry_of wide) (rows_of (count - i) (entry_len wide) (drop (entry_len wide * i) bytes))

pub entries_from-start : (wide : Bool) (count : ℕ) (bytes : List ℕ) → entries_from wide count 0 bytes ≡ map (entry_of wide) (rows_of count (entry_len wide) bytes)
entries_from-start wide count bytes =
    let all : count - 0 ≡ count = omega arith in
    let none : entry_len wide * 0 ≡ 0 = omega arith in
    rw (all, none) refl

entries_from-next : (wide : Bool) (count i : ℕ) (bytes : List ℕ) → i < count → entries_from wide count i bytes ≡ entry_at wide i bytes ∷ entries_from wide count (i + 1) bytes
unfolding rows_of
entries_from-next wide count i bytes lt =
    let one : count - i ≡ suc (count - (i + 1)) = omega arith in
    let behind : entry_len wide * i + entry_len wide ≡ entry_len wide * (i + 1) = omega arith in
    rw (one, drop-drop (entry_len wide) (entry_len wide * i) bytes, behind) refl

entries_from-end : (wide : Bool) (count i : ℕ) (bytes : List ℕ) → count ≤ i → entries_from wide count i bytes ≡ []
unfolding rows_of
entries_from-end wide count i bytes le = let none : count - i ≡ 0 = omega arith in rw none refl

-- an entry in front has its fault, or leaves it to the others
first_found : (fault : Option Code) (faults : List (Option Code)) (code : Code) → fault ≡ Some code → first_some (fault ∷ faults) ≡ Some code
first_found fault faults code e = rw e refl

first_passed : (fault : Option Code) (faults : List (Option Code)) → fault ≡ None → first_some (fault ∷ faults) ≡ first_some faults
first_passed fault faults e = rw e refl

pub fault_found : (count i : ℕ) (wide : Bool) (bytes : List ℕ) (code : Code) → i < count → entry_fault (entry_at wide i bytes) ≡ Some code
    → entries_fault (entries_from wide count i bytes) ≡ Some code
fault_found count i wide bytes code lt found = ap entries_fault (entries_from-next wide count i bytes lt) ∙ first_found (entry_fault (entry_at wide i bytes)) _ code found

pub fault_passed : (count i : ℕ) (wide : Bool) (bytes : List ℕ) → i < count → entry_fault (entry_at wide i bytes) ≡ None
    → entries_fault (entries_from wide count i bytes) ≡ entries_fault (entries_from wide count (i + 1) bytes)
fault_passed count i wide bytes lt passed = ap entries_fault (entries_from-next wide count i bytes lt) ∙ first_passed (entry_fault (entry_at wide i bytes)) _ passed

pub fault_none : (count i : ℕ) (wide : Bool) (bytes : List ℕ) → count ≤ i → entries_fault (entries_from wide count i bytes) ≡ None
fault_none count i wide bytes le = ap entries_fault (entries_from-end wide count i bytes le)

pub segments_next : (front all : List Segment) (count i : ℕ) (wide : Bool) (bytes : List ℕ) → i < count → front ++ map segment_of (entries_from wide count i bytes) ≡ all
    → (front ++ segment_of (entry_at wide i bytes) ∷ []) ++ map segment_of (entries_from wide count (i + 1) bytes) ≡ all
segments_next front all count i wide bytes lt so_far =
    append_assoc front (segment_of (entry_at wide i bytes) ∷ []) _
    ∙ (ap (λ (es : List EditEntry). front ++ map segment_of es) (sym (entries_from-next wide count i bytes lt)) ∙ so_far)

pub segments_end : (front all : List Segment) (count i : ℕ) (wide : Bool) (bytes : List ℕ) → count ≤ i → front ++ map segment_of (entries_from wide count i bytes) ≡ all → front ≡ all
segments_end front all count i wide bytes le so_far =
    sym (append-nil front) ∙ (ap (λ (es : List EditEntry). front ++ map segment_of es) (sym (entries_from-end wide count i bytes le)) ∙ so_far)

-- Data references and sample entries are read as they were written.
use Rattle.std.proofs.Common.{◌≡◌, ℕ, ◌≤◌, Bool, true, false, List, [], ◌∷◌, length, None, Ok, ap, ◌∙◌}
use Rattle.std.specs.Prelude.{slice_index_or}
use Rattle.std.specs.List.{AllByRecursion}
use Rattle.mp_boxes.specs.Reading.{value_or}
use Rattle.mp_boxes.specs.Boxes.{Box, IsBytes, body_place}
use Rattle.mp_entries.specs.Entry.{IsEntry}
use Rattle.mp_entries.specs.Description.{AreEntries, DescriptionsAreRead, most_entries, stsd, stsd_of}
use Rattle.mp_entries.specs.Reference.{ReferencesAreRead, dref, dref_of}
use Rattle.mp_movie.specs.Readings.{fault_of}
use Rattle.mp_movie.specs.Entries.{entries_fault, entries_of, local_references, references_fault}
use Rattle.mp_movie.specs.WellFormed.{IsEntryBox}

pub references-read : ReferencesAreRead → (box : Box) → box.body ≡ dref.body → references_fault box ≡ None
unfolding references_fault
references-read read box body = ap fault_of (ap (dref_of box.place (body_place box)) body ∙ read box.place (body_place box))

pub local-read : ReferencesAreRead → (box : Box) → box.body ≡ dref.body → local_references box ≡ true ∷ []
unfolding local_references
local-read read box body = ap (value_or []) (ap (dref_of box.place (body_place box)) body ∙ read box.place (body_place box))

-- entries that can be written
are-entries : (entries : List (List ℕ)) → length entries ≤ most_entries → AllByRecursion IsEntryBox entries → AreEntries entries
are-entries entries few are = record { few = few; bytes = all-bytes entries are; entry = all-entries entries are }
  where
    all-bytes : (entries : List (List ℕ)) → AllByRecursion IsEntryBox entries → AllByRecursion IsBytes entries
    all-bytes [] h = tt
    all-bytes (entry ∷ entries) h = (h.0.are_bytes, all-bytes entries h.1)

    all-entries : (entries : List (List ℕ)) → AllByRecursion IsEntryBox entries → AllByRecursion IsEntry entries
    all-entries [] h = tt
    all-entries (entry ∷ entries) h = (h.0.entry, all-entries entries h.1)

description-read : DescriptionsAreRead → (local : List Bool) → local ≡ true ∷ [] → (box : Box) (entries : List (List ℕ)) → box.body ≡ (stsd entries).body → AreEntries entries
    → stsd_of box.place (body_place box) local box.body ≡ Ok entries
description-read read local l box entries body are =
    ap (stsd_of box.place (body_place box) local) body ∙ read box.place (body_place box) local entries (ap (λ (local : List Bool). slice_index_or local 0 false) l) are

pub entries-sound : DescriptionsAreRead → (local : List Bool) → local ≡ true ∷ [] → (box : Box) (entries : List (List ℕ)) → box.body ≡ (stsd entries).body → length entries ≤ most_entries → AllByRecursion IsEntryBox entries
    → entries_fault local box ≡ None
unfolding entries_fault
entries-sound read local l box entries body few are = ap fault_of (description-read read local l box entries body (are-entries entries few are))

pub entries-read : DescriptionsAreRead → (local : List Bool) → local ≡ true ∷ [] → (box : Box) (entries : List (List ℕ)) → box.body ≡ (stsd entries).body → length entries ≤ most_entries → AllByRecursion IsEntryBox entries
    → entries_of local box ≡ entries
unfolding entries_of
entries-read read local l box entries body few are = ap (value_or []) (description-read read local l box entries body (are-entries entries few are))

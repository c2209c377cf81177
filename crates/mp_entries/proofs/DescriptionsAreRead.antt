-- The entries that are written behind their number are those that are read.
use Rattle.std.proofs.Common.{◌≡◌, ℕ, ◌+◌, ◌*◌, ◌^◌, ◌<◌, ◌≤◌, Bool, true, false, List, [], ◌∷◌, ◌++◌, length, map, drop, None, Result, Ok, refl, sym, ap, subst, ◌∙◌, arith}
use Rattle.std.specs.Prelude.{slice_index_or}
use Rattle.std.specs.Int.{w32, to_be_bytes}
use Rattle.std.specs.List.{AllByRecursion, list_any}
use Rattle.std.proofs.lemmas.Bool.{eq-eqb, le-ltb}
use Rattle.std.proofs.lemmas.List.{length-append, length-map}
use Rattle.mp_ports.specs.declared.code.Code.{Code}
use Rattle.mp_boxes.specs.declared.head.TopHead.{TopHead}
use Rattle.mp_boxes.specs.Boxes.{Box, IsBytes, IsOnItsOwn, boxes, whole_box}
use Rattle.mp_boxes.specs.Counted.{counted_fault, is_shorter}
use Rattle.mp_boxes.specs.FullBox.{first_row, row_count, table_fault, version}
use Rattle.mp_boxes.specs.Head.{IsWhole}
use Rattle.mp_boxes.specs.Laws.{BoxesAreRead, BoxesAreWhole, NumbersAreRead}
use Rattle.mp_boxes.specs.Push.{joined}
use Rattle.mp_entries.specs.Description.{AreEntries, description_fault, kept_entries, least_entry, stsd, stsd_of}
use Rattle.mp_entries.specs.Entry.{IsEntry}
use Rattle.mp_entries.specs.Kept.{EntriesAreKept}
use Rattle.mp_entries.proofs.EntriesArePushed.{joined_raw}

-- ---- the number in front

counted_text : ℕ → List ℕ → List ℕ
counted_text count text = to_be_bytes w32 0 ++ (to_be_bytes w32 count ++ text)

body_is : (entries : List (List ℕ)) → (stsd entries).body ≡ counted_text (length entries) (joined entries)
unfolding counted_text
body_is entries = ap (λ (text : List ℕ). to_be_bytes w32 0 ++ (to_be_bytes w32 (length entries) ++ text)) (joined_raw entries)

count_is : NumbersAreRead → (count : ℕ) (text : List ℕ) → count < 2 ^ 32 → row_count (counted_text count text) ≡ count
unfolding counted_text
count_is numbers count text fits = numbers.four (to_be_bytes w32 0) text count fits

version_is : NumbersAreRead → (count : ℕ) (text : List ℕ) → version (counted_text count text) ≡ 0
unfolding counted_text
version_is numbers count text = rw (numbers.four [] (to_be_bytes w32 count ++ text) 0 (omega arith)) refl

text_is : (count : ℕ) (text : List ℕ) → drop first_row (counted_text count text) ≡ text
unfolding counted_text
text_is count text = refl

text_len : (count : ℕ) (text : List ℕ) → length (counted_text count text) ≡ 8 + length text
unfolding counted_text
text_len count text = omega (arith, length-append (to_be_bytes w32 0) (to_be_bytes w32 count ++ text), length-append (to_be_bytes w32 count) text)

no_table_fault : NumbersAreRead → (count : ℕ) (text : List ℕ) → table_fault 0 0 (counted_text count text) ≡ None
unfolding table_fault
no_table_fault numbers count text =
    let len = text_len count text in
    rw (version_is numbers count text, le-ltb (length (counted_text count text)) 4 (omega arith), le-ltb (length (counted_text count text)) 8 (omega arith), le-ltb (length (counted_text count text)) (8 + 0 * row_count (counted_text count text)) (omega arith)) refl

-- ---- the entries as boxes

ok_inj : (one other : TopHead) → let f : TopHead → Result TopHead Code = λ head. Ok head in f one ≡ f other → one ≡ other
ok_inj one other e = cc

-- the body of an entry has at least its reserved bytes and its index
entry_long : (box : Box) → IsOnItsOwn box → IsEntry (whole_box box) → least_entry ≤ length box.body
entry_long box own entry =
    let same : own.whole.head ≡ entry.head = ok_inj own.whole.head entry.head (sym own.whole.read ∙ entry.read) in
    let header : entry.head.head ≡ length box.header = sym (ap (λ (head : TopHead). head.head) same) ∙ own.header in
    let room = entry.room in
    omega (arith, length-append box.header box.body)

none_short : (cut : List Box) → AllByRecursion IsOnItsOwn cut → AllByRecursion IsEntry (map whole_box cut) → list_any (is_shorter least_entry) cut ≡ false
none_short [] own entries = refl
none_short (box ∷ cut) own entries = rw (le-ltb (length box.body) least_entry (entry_long box own.0 entries.0), none_short cut own.1 entries.1) refl

-- and each is kept
all_kept : EntriesAreKept → (local : List Bool) (cut : List Box) → slice_index_or local 0 false ≡ true → AllByRecursion IsBytes (map whole_box cut) → AllByRecursion IsEntry (map whole_box cut) → kept_entries local cut ≡ Ok (map whole_box cut)
all_kept kept local [] own bytes entries = refl
all_kept kept local (box ∷ cut) own bytes entries = rw (kept box.place (whole_box box) local bytes.0 entries.0 own, all_kept kept local cut own bytes.1 entries.1) refl

entry_whole : (entries : List (List ℕ)) → AllByRecursion IsEntry entries → AllByRecursion IsWhole entries
entry_whole [] is = tt
entry_whole (entry ∷ entries) is = (record { head = is.0.head; read = is.0.read; ends = is.0.ends }, entry_whole entries is.1)

-- ---- all together

counted-ok : (count place base : ℕ) (text : List ℕ) (cut : List Box) → boxes false base text ≡ Ok cut → list_any (is_shorter least_entry) cut ≡ false → length cut ≡ count → counted_fault count least_entry place base text ≡ None
counted-ok count place base text cut read long number = rw (read, long, number, eq-eqb count count refl) refl

fault-ok : (place base count : ℕ) (body text : List ℕ) → table_fault 0 0 body ≡ None → row_count body ≡ count → count ≤ 255 → drop first_row body ≡ text → counted_fault count least_entry place (base + first_row) text ≡ None
    → description_fault place base body ≡ None
fault-ok place base count body text table number few rest counted = rw (table, number, le-ltb 255 count few, rest, counted) refl

stsd_of-ok : (place base : ℕ) (local : List Bool) (body text : List ℕ) (cut : List Box) (entries : List (List ℕ)) → description_fault place base body ≡ None → drop first_row body ≡ text → boxes false (base + first_row) text ≡ Ok cut
    → kept_entries local cut ≡ Ok entries → stsd_of place base local body ≡ Ok entries
unfolding stsd_of
stsd_of-ok place base local body text cut entries fine rest read kept = rw (fine, rest, read, kept) refl

pub descriptions_are_read : NumbersAreRead → BoxesAreRead → BoxesAreWhole → EntriesAreKept → (place base : ℕ) (local : List Bool) (entries : List (List ℕ)) → slice_index_or local 0 false ≡ true → AreEntries entries
    → stsd_of place base local (stsd entries).body ≡ Ok entries
descriptions_are_read numbers read whole kept place base local entries own are =
    let count = length entries in
    let text = joined entries in
    let few = are.few in
    let found = whole.joined (base + first_row) entries are.bytes (entry_whole entries are.entry) in
    let cut = found.0 in
    let same : map whole_box cut ≡ entries = found.2 in
    let is_read : boxes false (base + first_row) text ≡ Ok cut = read.found false (base + first_row) text cut found.1 in
    let bytes : AllByRecursion IsBytes (map whole_box cut) = subst (AllByRecursion IsBytes) (sym same) are.bytes in
    let entry : AllByRecursion IsEntry (map whole_box cut) = subst (AllByRecursion IsEntry) (sym same) are.entry in
    let long = none_short cut (whole.alone (base + first_row) text cut found.1) entry in
    let number : length cut ≡ count = sym (length-map cut whole_box) ∙ ap length same in
    let fine = fault-ok place base count (counted_text count text) text (no_table_fault numbers count text) (count_is numbers count text (omega arith)) few (text_is count text) (counted-ok count place (base + first_row) text cut is_read long number) in
    rw (body_is entries) (stsd_of-ok place base local (counted_text count text) text cut entries fine (text_is count text) is_read (all_kept kept local cut own bytes entry ∙ ap (λ (these : List (List ℕ)). Ok these) same))

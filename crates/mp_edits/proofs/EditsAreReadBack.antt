-- An edit list that is written is read.
use Rattle.std.proofs.Common.{◌≡◌, ℕ, ◌+◌, ◌-◌, ◌*◌, ◌^◌, ◌<◌, ◌≤◌, pos, negsuc, Bool, true, false, if◌then◌else◌, List, [], ◌∷◌, length, map, Option, Some, None, Ok, refl, ap, ◌∙◌, arith}
use Rattle.std.specs.Prelude.{nat_lt, option_map}
use Rattle.std.specs.Int.{w32, w64, cast_signed}
use Rattle.std.specs.List.{list_any, AllByRecursion}
use Rattle.std.proofs.lemmas.Bool.{or_parts, ltb-false, leb-false, le-ltb, lt-leb}
use Rattle.std.proofs.lemmas.Int.{to_z_pos}
use Rattle.std.proofs.lemmas.List.{length-map}
use Rattle.std.proofs.lemmas.List.Sums.{sum_by-cons}
use Rattle.std.proofs.lemmas.Nat.{from_be_bytes-to_be_bytes_4, from_be_bytes-to_be_bytes_8}
use Rattle.mp_ports.specs.Checks.{first_code}
use Rattle.mp_timeline.specs.declared.segment.Segment.{Segment}
use Rattle.mp_timeline.specs.declared.segment.Segment.TheVariants.{Empty, Media}
use Rattle.mp_boxes.specs.Number.{u16_at, u32_at, u64_at}
use Rattle.mp_boxes.specs.Field.{Part, body_bytes, boxes_bytes}
use Rattle.mp_boxes.specs.Format.{PartsAreFound}
use Rattle.mp_boxes.specs.FullBox.{HasRows, first_field, first_row, flags, row_count, version}
use Rattle.mp_boxes.specs.Table.{BoxesHaveLengths, HasTable, TablesAreRead, box_len, table_fields}
use Rattle.mp_edits.specs.declared.entry.EditEntry.{EditEntry}
use Rattle.mp_edits.specs.Entry.{entry_len, entry_of, entry_fault, segment_of}
use Rattle.mp_edits.specs.Segments.{duration, total, most_segments, starts_late, IsEditList}
use Rattle.mp_edits.specs.Table.{is_wide, entries, segments, elst_checks, count_checks, entries_fault, limit_checks, edits_of, elst_of}
use Rattle.mp_edits.specs.Written.{is_long, needs_wide, entry_fields, elst}
use Rattle.mp_edits.specs.EditBox.{AreEdits, edts, segments_in, track_edits}
use Rattle.mp_edits.proofs.Entries.{entry_bytes, width_each}

-- the entry that a segment is written as
abbrev entry_for : Segment → EditEntry
entry_for (Empty dur) = record { duration = dur; media_time = negsuc 0; rate = 1; fraction = 0 }
entry_for (Media start dur) = record { duration = dur; media_time = pos start; rate = 1; fraction = 0 }

-- its numbers fit the version
abbrev FitsEntry : Bool → Segment → Type 0
FitsEntry true (Empty dur) = dur < 2 ^ 64
FitsEntry true (Media start dur) = (dur < 2 ^ 64) × (start < 2 ^ 63)
FitsEntry false (Empty dur) = dur < 2 ^ 32
FitsEntry false (Media start dur) = (dur < 2 ^ 32) × (start < 2 ^ 31)

same_entry : (a b : EditEntry) → a.duration ≡ b.duration → a.media_time ≡ b.media_time → a.rate ≡ b.rate → a.fraction ≡ b.fraction → a ≡ b
same_entry a b p q r s = λ i. record { duration = p i; media_time = q i; rate = r i; fraction = s i }

entry_of-written : (wide : Bool) (edit : Segment) → FitsEntry wide edit → entry_of wide (entry_bytes wide edit) ≡ entry_for edit
unfolding u16_at u32_at u64_at
entry_of-written true (Empty dur) fits = same_entry _ (entry_for (Empty dur)) (from_be_bytes-to_be_bytes_8 dur fits) refl refl refl
entry_of-written true (Media start dur) fits =
    same_entry _ (entry_for (Media start dur)) (from_be_bytes-to_be_bytes_8 dur fits.0) (ap (cast_signed w64) (from_be_bytes-to_be_bytes_8 start (omega (arith, fits.1))) ∙ to_z_pos w64 start fits.1) refl refl
entry_of-written false (Empty dur) fits = same_entry _ (entry_for (Empty dur)) (from_be_bytes-to_be_bytes_4 dur fits) refl refl refl
entry_of-written false (Media start dur) fits =
    same_entry _ (entry_for (Media start dur)) (from_be_bytes-to_be_bytes_4 dur fits.0) (ap (cast_signed w32) (from_be_bytes-to_be_bytes_4 start (omega (arith, fits.1))) ∙ to_z_pos w32 start fits.1) refl refl

entries_of-written : (wide : Bool) (edits : List Segment) → AllByRecursion (FitsEntry wide) edits → map (entry_of wide) (map body_bytes (map (entry_fields wide) edits)) ≡ map entry_for edits
entries_of-written wide [] fits = refl
entries_of-written wide (edit ∷ edits) fits = rw (entry_of-written wide edit fits.0, entries_of-written wide edits fits.1) refl

segment_of-entry_for : (edit : Segment) → segment_of (entry_for edit) ≡ edit
segment_of-entry_for (Empty dur) = refl
segment_of-entry_for (Media start dur) = refl

segments-written : (edits : List Segment) → map segment_of (map entry_for edits) ≡ edits
segments-written [] = refl
segments-written (edit ∷ edits) = rw (segment_of-entry_for edit, segments-written edits) refl

entry_fault-written : (edit : Segment) → entry_fault (entry_for edit) ≡ None
entry_fault-written (Empty dur) = refl
entry_fault-written (Media start dur) = refl

faults-written : (edits : List Segment) → entries_fault (map entry_for edits) ≡ None
faults-written [] = refl
faults-written (edit ∷ edits) = rw (entry_fault-written edit, faults-written edits) refl

-- what can be written fits its version
fits_one : (wide : Bool) (edit : Segment) → duration edit < 2 ^ 62 → starts_late edit ≡ false → (wide ≡ false → is_long edit ≡ false) → FitsEntry wide edit
fits_one true (Empty dur) short early narrow = omega arith
fits_one true (Media start dur) short early narrow = let low = leb-false (2 ^ 62) start early in (omega arith, omega arith)
fits_one false (Empty dur) short early narrow = let low = ltb-false (2 ^ 32 - 1) dur (narrow refl) in omega arith
fits_one false (Media start dur) short early narrow =
    let parts = or_parts (nat_lt (2 ^ 32 - 1) dur) (nat_lt (2 ^ 31 - 1) start) (narrow refl) in
    let low = ltb-false (2 ^ 32 - 1) dur parts.0 in
    let low_start = ltb-false (2 ^ 31 - 1) start parts.1 in
    (omega arith, omega arith)

fits_all : (wide : Bool) (edits : List Segment) → total edits < 2 ^ 62 → list_any starts_late edits ≡ false → (wide ≡ false → list_any is_long edits ≡ false) → AllByRecursion (FitsEntry wide) edits
fits_all wide [] short early narrow = tt
fits_all wide (edit ∷ edits) short early narrow =
    let sums = sum_by-cons duration edit edits in
    let starts = or_parts (starts_late edit) (list_any starts_late edits) early in (
      fits_one wide edit (omega arith) starts.0 (λ e. (or_parts (is_long edit) (list_any is_long edits) (narrow e)).0),
      fits_all wide edits (omega arith) starts.1 (λ e. (or_parts (is_long edit) (list_any is_long edits) (narrow e)).1),
    )

-- ---- the body in either version

body_of : Bool → List Segment → List ℕ
body_of wide edits = body_bytes (table_fields wide (map (entry_fields wide) edits))

has_table : TablesAreRead → (wide : Bool) (edits : List Segment) → length edits < 2 ^ 32 → HasTable 1 (entry_len wide) wide (map (entry_fields wide) edits) (body_of wide edits)
unfolding body_of
has_table law wide edits few = law.table 1 (entry_len wide) wide (map (entry_fields wide) edits) (width_each wide edits) (omega (arith, length-map edits (entry_fields wide))) (known wide)
  where
    known : (wide : Bool) → (if wide then 1 else 0) ≤ 1
    known true = omega arith
    known false = omega arith

-- the version is told
wide_told : (body : List ℕ) (wide : Bool) → version body ≡ (if wide then 1 else 0) → (is_wide body ≡ wide) × (nat_lt 1 (version body) ≡ false)
wide_told body true e = (rw e refl, rw e refl)
wide_told body false e = (rw e refl, rw e refl)

-- a whole table of a known version, and of no flags
table_passes : (body : List ℕ) → nat_lt 1 (version body) ≡ false → flags body ≡ 0 → HasRows (entry_len (is_wide body)) body → first_code (elst_checks body) ≡ None
table_passes body known none whole =
    let some : nat_lt (length body) first_field ≡ false = le-ltb _ _ (omega arith) in
    let more : nat_lt (length body) first_row ≡ false = le-ltb _ _ (omega arith) in
    rw (some, known, none, more, le-ltb _ _ whole) refl

-- few segments, short and early
pub record AreFew (edits : List Segment) : Type 0 where
  pub few : length edits ≤ most_segments
  pub short : total edits < 2 ^ 62
  pub early : list_any starts_late edits ≡ false

limits_passed : (edits : List Segment) → AreFew edits → first_code (limit_checks edits) ≡ None
limits_passed edits list = rw (lt-leb _ _ list.short, list.early) refl

all_passed : (base : ℕ) (body : List ℕ) (edits : List Segment) → first_code (elst_checks body) ≡ None → first_code (count_checks body) ≡ None → entries_fault (entries body) ≡ None
    → first_code (limit_checks (segments body)) ≡ None → segments body ≡ edits → elst_of base body ≡ Ok (edits_of edits)
all_passed base body edits a b c d e = rw (a, b, c, d, e) refl

-- what is written in either version is read
read_written : TablesAreRead → (base : ℕ) (wide : Bool) (edits : List Segment) → AreFew edits → (wide ≡ false → list_any is_long edits ≡ false) → elst_of base (body_of wide edits) ≡ Ok (edits_of edits)
read_written law base wide edits list narrow =
    let body = body_of wide edits in
    let few = list.few in
    let table = has_table law wide edits (omega arith) in
    let told = wide_told body wide table.version_is in
    let rows = length-map edits (entry_fields wide) in
    let count : row_count body ≡ length edits = table.count ∙ rows in
    let es : entries body ≡ map entry_for edits = rw (told.0, table.rows_are) (entries_of-written wide edits (fits_all wide edits list.short list.early narrow)) in
    let segs : segments body ≡ edits = ap (map segment_of) es ∙ segments-written edits in
    let whole : HasRows (entry_len (is_wide body)) body = rw (told.0, table.count) (omega (arith, table.len)) in
    let counted : nat_lt most_segments (row_count body) ≡ false = rw count (le-ltb _ _ few) in
    all_passed base body edits (table_passes body told.1 table.flags_are whole) (rw counted refl) (ap entries_fault es ∙ faults-written edits) (rw segs (limits_passed edits list)) segs

some_edits : (edits : List Segment) → 1 ≤ length edits → edits_of edits ≡ Some edits
some_edits [] some = absurd (omega arith)
some_edits (edit ∷ edits) some = refl

-- edits are read of the list that is written for them
pub list_read : TablesAreRead → (edits : Option (List Segment)) (base : ℕ) → AreEdits edits → elst_of base (elst (segments_in edits)).body ≡ Ok edits
unfolding body_of
list_read law None base is = read_written law base false [] (record { few = omega arith; short = omega arith; early = refl }) (λ e. refl)
list_read law (Some edits) base is =
    read_written law base (needs_wide edits) edits (record { few = is.few; short = is.short; early = is.early }) (λ e. e) ∙ ap (λ (found : Option (List Segment)). Ok found) (some_edits edits is.some)

-- ---- the edit box

elst-len : TablesAreRead → (edits : List Segment) → IsEditList edits → box_len (elst edits) ≤ 16 + 20 * 65535
unfolding body_of
elst-len law edits is =
    let few = is.few in
    let rows = length-map edits (entry_fields (needs_wide edits)) in
    short (needs_wide edits) (length edits) (length (body_of (needs_wide edits) edits)) few ((has_table law (needs_wide edits) edits (omega arith)).len ∙ ap (λ (n : ℕ). 8 + entry_len (needs_wide edits) * n) rows)
  where
    short : (wide : Bool) (n len : ℕ) → n ≤ most_segments → len ≡ 8 + entry_len wide * n → 8 + len ≤ 16 + 20 * 65535
    short true n len few e = omega arith
    short false n len few e = omega arith

-- and of the edit box
pub box_read : TablesAreRead → PartsAreFound → BoxesHaveLengths → (edits : Option (List Segment)) → AreEdits edits → track_edits (option_map (λ (part : Part). part.body) (edts edits)) ≡ edits
box_read tables parts lengths None is = refl
box_read tables parts lengths (Some edits) is =
    let list : List Part = elst edits ∷ [] in
    let short : length (boxes_bytes list) < 2 ^ 32 = omega (arith, lengths.all list, elst-len tables edits is) in
    rw (parts.alone list (record { four = refl; plain = refl }, tt) short, list_read tables (Some edits) 0 is) refl

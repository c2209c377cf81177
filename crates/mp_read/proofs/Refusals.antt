-- Each check of a file refuses it with a code of files.
use Rattle.std.proofs.Common.{◌≡◌, ◌≢◌, ℕ, zero, suc, negsuc, ◌+◌, ◌-◌, ◌&&◌, ◌||◌, not, Bool, true, false, List, [], ◌∷◌, ◌++◌, length, map, sum, take, drop, Option, Some, None, IfSome, IfErr, Result, Ok, Err, refl, sym, subst}
use Rattle.std.specs.Prelude.{codes, if◌then◌else◌, int_lt, nat_lt, slice_index_or, ◌==◌}
use Rattle.std.specs.List.{AllByRecursion, list_any, range_with_len, sum_by}
use Rattle.std.specs.Str.{bytes_eq}
use Rattle.mp_ports.specs.declared.code.Code.{Code}
use Rattle.mp_ports.specs.declared.code.Code.TheVariants.{BoxCut, BoxSize, ChunkMap, Compressed, CountMismatch, EditRate, EditTime, Encrypted, EntryIndex, EntryLimit, External, Fragmented, HintTrack, MoovLimit, SampleLimit, SampleOutside, ScaleZero, SyncOrder, TableLength, TrackId, TrackLimit}
use Rattle.mp_ports.specs.declared.fault.Bad.{Bad}
use Rattle.mp_ports.specs.declared.fault.Fail.{Fail}
use Rattle.mp_ports.specs.declared.fault.ReadFail.{ReadFail}
use Rattle.mp_ports.specs.declared.fault.ReadFail.TheVariants.{Bad as RefusedRead, NoMemory, ReadFault}
use Rattle.mp_ports.specs.Checks.{bad_at, fault_at, first_code, first_some, placed, unless, ◌>>=◌}
use Rattle.mp_ports.specs.Gives.{Gives, read_refusal, refusal}
use Rattle.mp_boxes.specs.declared.head.TopHead.{TopHead}
use Rattle.mp_boxes.specs.Boxes.{Box, body_place, boxes, front_box, walk, whole_box}
use Rattle.mp_boxes.specs.Child.{at_most_one_of, of_either, of_kind, one_of}
use Rattle.mp_boxes.specs.Counted.{is_shorter, numbered_fault}
use Rattle.mp_boxes.specs.FullBox.{first_field, first_row, flags, full_box_checks, row_count, table_checks, table_fault, table_rows}
use Rattle.mp_boxes.specs.Head.{box_size, head_at, head_fault, head_from, header_len}
use Rattle.mp_boxes.specs.Number.{kind_at, u32_at}
use Rattle.mp_boxes.specs.Reading.{next_bytes, next_time, next_u16, next_u32, next_u64, value_or}
use Rattle.mp_columns.specs.declared.columns.TheConstants.{MOST_ITEMS}
use Rattle.mp_chunks.specs.Chunks.{begins, chunk_offsets_of, offset_len, run_at, run_fault, run_len as chunk_run_len, runs_fault, runs_of_chunks, stsc_of}
use Rattle.mp_chunks.specs.Places.{counts_of, is_outside}
use Rattle.mp_chunks.specs.Samples.{Bodies, chunks_fault_of, map_fault, samples_by}
use Rattle.mp_chunks.specs.Sizes.{size_checks, sizes_of, stsz_checks, stz2_checks}
use Rattle.mp_edits.specs.declared.entry.EditEntry.{EditEntry}
use Rattle.mp_edits.specs.Entry.{entry_fault as edit_fault, is_empty}
use Rattle.mp_edits.specs.Table.{count_checks, edits_of as listed, elst_checks, elst_faults, elst_of, entries, entries_fault as edit_entries_fault, limit_checks, segments}
use Rattle.mp_entries.specs.Description.{description_fault, entries_in, kept_entries, least_entry, most_entries, stsd_of}
use Rattle.mp_entries.specs.Entry.{is_protected, reference}
use Rattle.mp_entries.specs.Kept.{entry_fault, kept_entry, with_first_reference}
use Rattle.mp_entries.specs.Reference.{dref_of, is_local, local_references as references_in, references_fault as reference_checks}
use Rattle.mp_headers.specs.MovieHeader.{mvhd_from, mvhd_of}
use Rattle.mp_headers.specs.TrackHeader.{tkhd_from, tkhd_of}
use Rattle.mp_headers.specs.MediaHeader.{mdhd_from, mdhd_of}
use Rattle.mp_headers.specs.Matrix.{matrix_len}
use Rattle.mp_headers.specs.Handler.{handler_of, hdlr_fault, hdlr_of, name_place}
use Rattle.mp_headers.specs.Times.{has_wide_times, newest_version, wide_times}
use Rattle.mp_times.specs.Sync.{are_samples, is_rising, number_len, numbers_of, order_fault, stss_fault}
use Rattle.mp_times.specs.Times.{newest_version as newest_times, run_len, sample_count, unfolded}
use Rattle.mp_movie.specs.Children.{at_most_one, boxes_in, children, first_refused, has_at_most_one, has_boxes, has_one, has_one_of_two, one, one_of_two, the}
use Rattle.mp_movie.specs.Edits.{edits_fault, list_in}
use Rattle.mp_movie.specs.Entries.{entries_fault, entries_of, local_references, references_fault}
use Rattle.mp_movie.specs.Limits.{most_tracks}
use Rattle.mp_movie.specs.Present.{most_moov, movie_checks, movie_fault, traks_in}
use Rattle.mp_movie.specs.Readings.{fault_of, if_there}
use Rattle.mp_movie.specs.SampleTable.{bodies_in, count_in, counts_fault, has_count, places_fault, unfolded_at}
use Rattle.mp_movie.specs.TrackBoxes.{TrackBoxes, boxes_of}
use Rattle.mp_movie.specs.Tracks.{number_in, tables_fault, track_checks, track_fault, tracks_fault}
use Rattle.mp_read.specs.Movie.{MovieTablesRecord, movie_tables}
use Rattle.mp_read.specs.Read.{IsFileRefusal, is_file_code}

-- ---- words

-- a code, a fault, a reading that fails: each with a code of files
abbrev IsCode : Option Code → Type 0
IsCode fault = IfSome fault (λ code. is_file_code code ≡ true)

abbrev pub Names : Option Bad → Type 0
Names fault = IfSome fault IsFileRefusal

abbrev FailsSo : {A : Type 0} → Result A Code → Type 0
FailsSo (Ok value) = Unit
FailsSo (Err code) = is_file_code code ≡ true

abbrev AreCodes : List (Bool × Code) → Type 0
AreCodes checks = AllByRecursion (λ check. is_file_code check.1 ≡ true) checks

pub at_place : (place : ℕ) (fault : Option Code) → IsCode fault → Names (fault_at place fault)
at_place place None h = tt
at_place place (Some code) h = record { code = h; command = refl; named = refl }

one_code : (checks : List (Bool × Code)) → AreCodes checks → IsCode (first_code checks)
one_code [] all = tt
one_code (check ∷ checks) all = by check.0 (one_code checks all.1)
  where
    by : (test : Bool) → IsCode (first_code checks) → IsCode (if test then Some check.1 else first_code checks)
    by true later = all.0
    by false later = later

pub tests : (place : ℕ) (checks : List (Bool × Code)) → AreCodes checks → Names (fault_at place (first_code checks))
tests place checks all = at_place place (first_code checks) (one_code checks all)

first_of_codes : (faults : List (Option Code)) → AllByRecursion IsCode faults → IsCode (first_some faults)
first_of_codes [] all = tt
first_of_codes (None ∷ faults) all = first_of_codes faults all.1
first_of_codes (Some code ∷ faults) all = all.0

pub first_of : (checks : List (Option Bad)) → AllByRecursion Names checks → Names (first_some checks)
first_of [] all = tt
first_of (None ∷ checks) all = first_of checks all.1
first_of (Some bad ∷ checks) all = all.0

mapped_codes : {A : Type 0} (f : A → Option Code) (xs : List A) → ((x : A) → IsCode (f x)) → AllByRecursion IsCode (map f xs)
mapped_codes f [] each = tt
mapped_codes f (x ∷ xs) each = (each x, mapped_codes f xs each)

pub placed_at : {A : Type 0} (place : ℕ) (r : Result A Code) → FailsSo r → Names (fault_of (placed place r))
placed_at place (Ok value) h = tt
placed_at place (Err code) h = record { code = h; command = refl; named = refl }

pub behind : {A : Type 0} (fault : Option Code) (value : A) → IsCode fault → FailsSo (unless fault value)
behind None value h = tt
behind (Some code) value h = h

behind_fault : {A : Type 0} (fault : Option Bad) (value : A) → Names fault → Names (fault_of (unless fault value))
behind_fault None value h = tt
behind_fault (Some bad) value h = h

and_then : {A B : Type 0} (r : Result A Code) (f : A → Result B Code) → FailsSo r → ((x : A) → FailsSo (f x)) → FailsSo (r >>= f)
and_then (Ok x) f first next = next x
and_then (Err code) f first next = first

then_at : {A B : Type 0} (r : Result A Bad) (f : A → Result B Bad) → Names (fault_of r) → ((x : A) → Names (fault_of (f x))) → Names (fault_of (r >>= f))
then_at (Ok x) f first next = next x
then_at (Err bad) f first next = first

where_there : {A : Type 0} (check : A → Option Bad) (o : Option A) → ((x : A) → Names (check x)) → Names (if_there check o)
where_there check None each = tt
where_there check (Some x) each = each x

-- ---- boxes

pub head_codes : (top : Bool) (front : List ℕ) (rest : ℕ) → IsCode (head_fault top front rest)
head_codes top front rest =
    one_code
    ((nat_lt rest 8, BoxCut) ∷ (nat_lt rest (header_len front), BoxCut) ∷ ((u32_at front 0 == 0) && not top, BoxSize) ∷ (nat_lt (box_size front rest) (header_len front), BoxSize) ∷ (nat_lt rest (box_size front rest), BoxCut) ∷ []) (refl, (refl, (refl, (refl, (refl, tt)))))

abbrev head_of_text : List ℕ → TopHead
head_of_text text = record { kind = kind_at text 4; head = header_len text; len = box_size text (length text) }

pub walk_names : (most : ℕ) (top : Bool) (place : ℕ) (text : List ℕ) → Names (fault_of (walk most top place text))
unfolding walk
walk_names zero top place text = tt
walk_names (suc most) top place [] = tt
walk_names (suc most) top place (byte ∷ bytes) =
    then_at (placed place (head_at top (byte ∷ bytes))) (λ head. walk most top (place + head.len) (drop head.len (byte ∷ bytes)) >>= λ boxes. Ok (front_box head place (byte ∷ bytes) ∷ boxes))
    (placed_at place (head_at top (byte ∷ bytes)) (behind (head_fault top (byte ∷ bytes) (length (byte ∷ bytes))) (head_of_text (byte ∷ bytes)) (head_codes top (byte ∷ bytes) (length (byte ∷ bytes)))))
    (λ head. then_at (walk most top (place + head.len) (drop head.len (byte ∷ bytes))) (λ boxes. Ok (front_box head place (byte ∷ bytes) ∷ boxes)) (walk_names most top (place + head.len) (drop head.len (byte ∷ bytes))) (λ boxes. tt))

boxes_names : (place : ℕ) (text : List ℕ) → Names (fault_of (boxes false place text))
boxes_names place text = walk_names (length text) false place text

pub one_names : (end : ℕ) (found : List Box) → Names (fault_of (one_of end found))
one_names end [] = record { code = refl; command = refl; named = refl }
one_names end (box ∷ []) = tt
one_names end (box ∷ second ∷ found) = record { code = refl; command = refl; named = refl }

optional_names : (found : List Box) → Names (fault_of (at_most_one_of found))
optional_names [] = tt
optional_names (box ∷ []) = tt
optional_names (box ∷ second ∷ found) = record { code = refl; command = refl; named = refl }

pub none_names : (code : Code) (found : List Box) → is_file_code code ≡ true → Names (first_refused code found)
none_names code [] h = tt
none_names code (box ∷ found) h = record { code = h; command = refl; named = refl }

whole : (box : Box) → Names (has_boxes box)
unfolding children
whole box = boxes_names (body_place box) box.body

the_one : (kind : List ℕ) (box : Box) → Names (has_one kind box)
unfolding one
the_one kind box = then_at (boxes false (body_place box) box.body) (λ found. one_of (body_place box + length box.body) (of_kind kind found)) (boxes_names (body_place box) box.body) (λ found. one_names (body_place box + length box.body) (of_kind kind found))

one_or_none : (kind : List ℕ) (box : Box) → Names (has_at_most_one kind box)
unfolding at_most_one
one_or_none kind box = then_at (boxes false (body_place box) box.body) (λ found. at_most_one_of (of_kind kind found)) (boxes_names (body_place box) box.body) (λ found. optional_names (of_kind kind found))

either_one : (kind other : List ℕ) (box : Box) → Names (has_one_of_two kind other box)
unfolding one_of_two
either_one kind other box = then_at (boxes false (body_place box) box.body) (λ found. one_of (body_place box + length box.body) (of_either kind other found)) (boxes_names (body_place box) box.body) (λ found. one_names (body_place box + length box.body) (of_either kind other found))

table_codes : (newest width : ℕ) (body : List ℕ) → IsCode (table_fault newest width body)
unfolding table_fault
table_codes newest width body = one_code (table_checks newest width body) (refl, (refl, (refl, (refl, tt))))

numbered : (least place base : ℕ) (body : List ℕ) → Names (numbered_fault least place base body)
numbered least place base body = by (boxes false (base + first_row) (drop first_row body)) refl (boxes_names (base + first_row) (drop first_row body))
  where
    by : (r : Result (List Box) Bad) → boxes false (base + first_row) (drop first_row body) ≡ r → Names (fault_of r) → Names (numbered_fault least place base body)
    by (Ok found) e h = rw e (tests place ((list_any (is_shorter least) found || not (length found == row_count body), TableLength) ∷ []) (refl, tt))
    by (Err bad) e h = rw e h

-- ---- headers

bytes_codes : (count : ℕ) (text : List ℕ) → FailsSo (next_bytes count text)
unfolding next_bytes
bytes_codes count text = by (nat_lt (length text) count)
  where
    by : (short : Bool) → FailsSo {A = List ℕ × List ℕ} (if short then Err TableLength else Ok (take count text, drop count text))
    by true = refl
    by false = tt

u16_codes : (text : List ℕ) → FailsSo (next_u16 text)
unfolding next_u16
u16_codes text = and_then (next_bytes 2 text) _ (bytes_codes 2 text) (λ next. tt)

u32_codes : (text : List ℕ) → FailsSo (next_u32 text)
unfolding next_u32
u32_codes text = and_then (next_bytes 4 text) _ (bytes_codes 4 text) (λ next. tt)

u64_codes : (text : List ℕ) → FailsSo (next_u64 text)
unfolding next_u64
u64_codes text = and_then (next_bytes 8 text) _ (bytes_codes 8 text) (λ next. tt)

time_codes : (wide : Bool) (text : List ℕ) → FailsSo (next_time wide text)
unfolding next_time
time_codes true text = u64_codes text
time_codes false text = u32_codes text

version_codes : (body : List ℕ) → FailsSo (wide_times body)
version_codes body = behind (first_code (full_box_checks newest_version first_field body)) (has_wide_times body) (one_code (full_box_checks newest_version first_field body) (refl, (refl, (refl, tt))))

mvhd_codes : (wide : Bool) (text : List ℕ) → FailsSo (mvhd_from wide text)
unfolding mvhd_from
mvhd_codes wide text =
    and_then (next_time wide text) _ (time_codes wide text) (λ a.
    and_then (next_time wide a.1) _ (time_codes wide a.1) (λ b.
    and_then (next_u32 b.1) _ (u32_codes b.1) (λ c.
    and_then (next_time wide c.1) _ (time_codes wide c.1) (λ d.
    and_then (next_u32 d.1) _ (u32_codes d.1) (λ e.
    and_then (next_u16 e.1) _ (u16_codes e.1) (λ f.
    and_then (next_bytes 10 f.1) _ (bytes_codes 10 f.1) (λ g.
    and_then (next_bytes matrix_len g.1) _ (bytes_codes matrix_len g.1) (λ h.
    and_then (next_bytes 24 h.1) _ (bytes_codes 24 h.1) (λ i.
    and_then (next_u32 i.1) _ (u32_codes i.1) (λ j.
    behind (first_code ((c.0 == 0, ScaleZero) ∷ [])) _ (one_code ((c.0 == 0, ScaleZero) ∷ []) (refl, tt))))))))))))

mdhd_codes : (wide : Bool) (text : List ℕ) → FailsSo (mdhd_from wide text)
unfolding mdhd_from
mdhd_codes wide text =
    and_then (next_time wide text) _ (time_codes wide text) (λ a.
    and_then (next_time wide a.1) _ (time_codes wide a.1) (λ b.
    and_then (next_u32 b.1) _ (u32_codes b.1) (λ c.
    and_then (next_time wide c.1) _ (time_codes wide c.1) (λ d.
    and_then (next_u16 d.1) _ (u16_codes d.1) (λ e.
    and_then (next_bytes 2 e.1) _ (bytes_codes 2 e.1) (λ f.
    behind (first_code ((c.0 == 0, ScaleZero) ∷ [])) _ (one_code ((c.0 == 0, ScaleZero) ∷ []) (refl, tt))))))))

tkhd_codes : (bits : ℕ) (wide : Bool) (text : List ℕ) → FailsSo (tkhd_from bits wide text)
unfolding tkhd_from
tkhd_codes bits wide text =
    and_then (next_time wide text) _ (time_codes wide text) (λ a.
    and_then (next_time wide a.1) _ (time_codes wide a.1) (λ b.
    and_then (next_u32 b.1) _ (u32_codes b.1) (λ c.
    and_then (next_bytes 4 c.1) _ (bytes_codes 4 c.1) (λ d.
    and_then (next_time wide d.1) _ (time_codes wide d.1) (λ e.
    and_then (next_bytes 8 e.1) _ (bytes_codes 8 e.1) (λ f.
    and_then (next_u16 f.1) _ (u16_codes f.1) (λ g.
    and_then (next_u16 g.1) _ (u16_codes g.1) (λ h.
    and_then (next_u16 h.1) _ (u16_codes h.1) (λ i.
    and_then (next_bytes 2 i.1) _ (bytes_codes 2 i.1) (λ j.
    and_then (next_bytes matrix_len j.1) _ (bytes_codes matrix_len j.1) (λ k.
    and_then (next_u32 k.1) _ (u32_codes k.1) (λ l.
    and_then (next_u32 l.1) _ (u32_codes l.1) (λ m.
    tt)))))))))))))

mvhd_names : (place : ℕ) (body : List ℕ) → Names (fault_of (mvhd_of place body))
mvhd_names place body = placed_at place _ (and_then (wide_times body) (λ wide. mvhd_from wide (drop first_field body)) (version_codes body) (λ wide. mvhd_codes wide (drop first_field body)))

mdhd_names : (place : ℕ) (body : List ℕ) → Names (fault_of (mdhd_of place body))
mdhd_names place body = placed_at place _ (and_then (wide_times body) (λ wide. mdhd_from wide (drop first_field body)) (version_codes body) (λ wide. mdhd_codes wide (drop first_field body)))

tkhd_names : (place : ℕ) (body : List ℕ) → Names (fault_of (tkhd_of place body))
tkhd_names place body =
    placed_at place _ (and_then (wide_times body) (λ wide. tkhd_from (flags body) wide (drop first_field body)) (version_codes body) (λ wide. tkhd_codes (flags body) wide (drop first_field body)))

hdlr_names : (place : ℕ) (body : List ℕ) → Names (fault_of (hdlr_of place body))
hdlr_names place body = placed_at place _ (behind (hdlr_fault body) (handler_of body) (one_code ((nat_lt (length body) name_place, TableLength) ∷ (bytes_eq (handler_of body) (codes "hint"), HintTrack) ∷ []) (refl, (refl, tt))))

-- ---- data references and entries

references_name : (dref : Box) → Names (references_fault dref)
unfolding references_fault dref_of
references_name dref =
    let base = body_place dref in
    then_at (unless (reference_checks dref.place base dref.body) (drop first_row dref.body)) (references_in (base + first_row))
    (behind_fault (reference_checks dref.place base dref.body) (drop first_row dref.body)
    (first_of (fault_at dref.place (table_fault 0 0 dref.body) ∷ numbered_fault first_field dref.place base dref.body ∷ [])
    (at_place dref.place (table_fault 0 0 dref.body) (table_codes 0 0 dref.body), (numbered first_field dref.place base dref.body, tt))))
    (λ text. then_at (boxes false (base + first_row) text) (λ found. Ok (map is_local found)) (boxes_names (base + first_row) text) (λ found. tt))

entry_names : (place : ℕ) (text : List ℕ) (local : List Bool) → Names (fault_of (kept_entry place text local))
entry_names place text local =
    placed_at place _
    (and_then (head_at false text) (λ head. unless (entry_fault head.kind head.head text local) (with_first_reference head.head text)) (behind (head_fault false text (length text)) (head_of_text text) (head_codes false text (length text)))
    (λ head. behind (entry_fault head.kind head.head text local) (with_first_reference head.head text) (one_code
    ((nat_lt (length text) (head.head + 8), TableLength) ∷ (is_protected head.kind, Encrypted) ∷ ((reference text head.head == 0) || nat_lt (length local) (reference text head.head), EntryIndex)
    ∷ (not (slice_index_or local (reference text head.head - 1) false), External) ∷ [])
    (refl, (refl, (refl, (refl, tt)))))))

kept_names : (local : List Bool) (found : List Box) → Names (fault_of (kept_entries local found))
kept_names local [] = tt
kept_names local (box ∷ found) =
    then_at (kept_entry box.place (whole_box box) local) (λ kept. kept_entries local found >>= λ others. Ok (kept ∷ others)) (entry_names box.place (whole_box box) local)
    (λ kept. then_at (kept_entries local found) (λ others. Ok (kept ∷ others)) (kept_names local found) (λ others. tt))

entries_name : (local : List Bool) (stsd : Box) → Names (entries_fault local stsd)
unfolding entries_fault stsd_of
entries_name local stsd =
    let base = body_place stsd in
    let limit = (nat_lt most_entries (row_count stsd.body), EntryLimit) ∷ [] in
    then_at (unless (description_fault stsd.place base stsd.body) (drop first_row stsd.body)) (entries_in (base + first_row) local)
    (behind_fault (description_fault stsd.place base stsd.body) (drop first_row stsd.body)
    (first_of (fault_at stsd.place (table_fault 0 0 stsd.body) ∷ fault_at 0 (first_code limit) ∷ numbered_fault least_entry stsd.place base stsd.body ∷ [])
    (at_place stsd.place (table_fault 0 0 stsd.body) (table_codes 0 0 stsd.body), (tests 0 limit (refl, tt), (numbered least_entry stsd.place base stsd.body, tt)))))
    (λ text. then_at (boxes false (base + first_row) text) (kept_entries local) (boxes_names (base + first_row) text) (kept_names local))

-- ---- tables of samples

tables_name : (stbl : Box) → Names (tables_fault stbl)
unfolding tables_fault
tables_name stbl =
    first_of
    (has_boxes stbl
    ∷ has_one (codes "stsd") stbl
    ∷ has_one (codes "stts") stbl
    ∷ has_one (codes "stsc") stbl
    ∷ has_one_of_two (codes "stsz") (codes "stz2") stbl
    ∷ has_one_of_two (codes "stco") (codes "co64") stbl
    ∷ has_at_most_one (codes "ctts") stbl
    ∷ has_at_most_one (codes "stss") stbl
    ∷ [])
    (whole stbl, (the_one (codes "stsd") stbl, (the_one (codes "stts") stbl, (the_one (codes "stsc") stbl, (either_one (codes "stsz") (codes "stz2") stbl, (either_one (codes "stco") (codes "co64") stbl, (one_or_none (codes "ctts") stbl, (one_or_none (codes "stss") stbl, tt))))))))

times_name : (ctts : Bool) (box : Box) → Names (fault_of (unfolded_at ctts box))
times_name ctts box = placed_at box.place (unfolded ctts box.body) (behind (table_fault (newest_times ctts) run_len box.body) (sample_count (table_rows run_len box.body)) (table_codes (newest_times ctts) run_len box.body))

count_names : (samples : ℕ) (ctts : Bool) (box : Box) → Names (has_count samples ctts box)
count_names samples ctts box = tests box.place ((not (value_or 0 (unfolded_at ctts box) == samples), CountMismatch) ∷ []) (refl, tt)

size_codes : (compact : Bool) (body : List ℕ) → IsCode (first_code (size_checks compact body))
size_codes true body = one_code (stz2_checks body) (refl, (refl, (refl, (refl, (refl, tt)))))
size_codes false body = one_code (stsz_checks body) (refl, (refl, (refl, (refl, tt))))

counts_name : (before : ℕ) (boxes : TrackBoxes) → Names (counts_fault before boxes)
unfolding counts_fault
counts_name before boxes =
    let few = (nat_lt MOST_ITEMS (before + count_in boxes), SampleLimit) ∷ [] in
    first_of
    (fault_of (unfolded_at false boxes.stts)
    ∷ if_there (λ ctts. fault_of (unfolded_at true ctts)) boxes.ctts
    ∷ fault_at boxes.sizes.place (first_code (size_checks (bodies_in boxes).compact boxes.sizes.body))
    ∷ has_count (count_in boxes) false boxes.stts
    ∷ if_there (has_count (count_in boxes) true) boxes.ctts
    ∷ fault_at 0 (first_code few)
    ∷ [])
    (times_name false boxes.stts, (where_there (λ ctts. fault_of (unfolded_at true ctts)) boxes.ctts (times_name true), (at_place boxes.sizes.place (first_code (size_checks (bodies_in boxes).compact boxes.sizes.body)) (size_codes (bodies_in boxes).compact boxes.sizes.body), (count_names (count_in boxes) false boxes.stts, (where_there (has_count (count_in boxes) true) boxes.ctts (count_names (count_in boxes) true), (tests 0 few (refl, tt), tt))))))

run_codes : (entries : ℕ) (runs : List _) (before : ℕ) → IsCode (run_fault entries runs before)
unfolding run_fault
run_codes entries runs before =
    one_code
    ((not (begins runs before), ChunkMap) ∷ ((run_at runs before).samples == 0, ChunkMap) ∷ ((run_at runs before).entry == 0, EntryIndex) ∷ (nat_lt entries (run_at runs before).entry, EntryIndex) ∷ [])
    (refl, (refl, (refl, (refl, tt))))

runs_codes : (entries : ℕ) (runs : List _) → IsCode (runs_fault entries runs)
unfolding runs_fault
runs_codes entries runs = first_of_codes (map (run_fault entries runs) (range_with_len 0 (length runs))) (mapped_codes (run_fault entries runs) (range_with_len 0 (length runs)) (run_codes entries runs))

map_codes : (runs : List _) (chunks samples : ℕ) → IsCode (map_fault runs chunks samples)
unfolding map_fault
map_codes runs chunks samples =
    one_code ((nat_lt 0 chunks && (length runs == 0), ChunkMap) ∷ (not (sum (counts_of (runs_of_chunks runs chunks)) == samples), ChunkMap) ∷ []) (refl, (refl, tt))

chunks_name : (entries stsc_place offsets_place : ℕ) (bodies : Bodies) → Names (chunks_fault_of entries stsc_place offsets_place bodies)
chunks_name entries stsc_place offsets_place bodies =
    let runs = stsc_of bodies.stsc in
    let chunks = length (chunk_offsets_of bodies.wide bodies.offsets) in
    let samples = length (sizes_of bodies.compact bodies.sizes) in
    let first = table_fault 0 chunk_run_len bodies.stsc in
    let second = table_fault 0 (offset_len bodies.wide) bodies.offsets in
    first_of (fault_at stsc_place first ∷ fault_at offsets_place second ∷ fault_at stsc_place (runs_fault entries runs) ∷ fault_at stsc_place (map_fault runs chunks samples) ∷ [])
    (at_place stsc_place first (table_codes 0 chunk_run_len bodies.stsc), (at_place offsets_place second (table_codes 0 (offset_len bodies.wide) bodies.offsets), (at_place stsc_place (runs_fault entries runs) (runs_codes entries runs), (at_place stsc_place (map_fault runs chunks samples) (map_codes runs chunks samples), tt))))

marks_codes : (samples : ℕ) (body : List ℕ) → IsCode (stss_fault samples body)
marks_codes samples body =
    let numbers = numbers_of body in
    first_of_codes (table_fault 0 number_len body ∷ order_fault samples numbers ∷ [])
    (table_codes 0 number_len body, (one_code ((not (is_rising numbers), SyncOrder) ∷ (not (are_samples samples numbers), SyncOrder) ∷ []) (refl, (refl, tt)), tt))

places_name : (entries size : ℕ) (boxes : TrackBoxes) → Names (places_fault entries size boxes)
unfolding places_fault
places_name entries size boxes =
    let bodies = bodies_in boxes in
    let marks = λ (stss : Box). fault_at stss.place (stss_fault (count_in boxes) stss.body) in
    let outside = (list_any (is_outside size) (samples_by bodies), SampleOutside) ∷ [] in
    first_of (chunks_fault_of entries boxes.stsc.place boxes.places.place bodies ∷ if_there marks boxes.stss ∷ fault_at boxes.places.place (first_code outside) ∷ [])
    (chunks_name entries boxes.stsc.place boxes.places.place bodies, (where_there marks boxes.stss (λ stss. at_place stss.place (stss_fault (count_in boxes) stss.body) (marks_codes (count_in boxes) stss.body)), (tests boxes.places.place outside (refl, tt), tt)))

-- ---- edits

edit_codes : (entry : EditEntry) → IsCode (edit_fault entry)
edit_codes entry =
    one_code ((int_lt entry.media_time (negsuc 0), EditTime) ∷ (not (is_empty entry) && not ((entry.rate == 1) && (entry.fraction == 0)), EditRate) ∷ []) (refl, (refl, tt))

list_names : (list : Box) → Names (fault_of (elst_of list.place list.body))
list_names list =
    let body = list.body in
    behind_fault (first_some (elst_faults list.place body)) (listed (segments body))
    (first_of (elst_faults list.place body)
    (tests list.place (elst_checks body) (refl, (refl, (refl, (refl, (refl, (refl, (refl, (refl, tt)))))))), (tests 0 (count_checks body) (refl, tt), (at_place list.place (edit_entries_fault (entries body)) (first_of_codes (map edit_fault (entries body)) (mapped_codes edit_fault (entries body) edit_codes)), (tests 0 (limit_checks (segments body)) (refl, (refl, tt)), tt)))))

edits_name : (edts : Option Box) → Names (edits_fault edts)
unfolding edits_fault
edits_name edts =
    first_of (if_there has_boxes edts ∷ if_there (has_at_most_one (codes "elst")) edts ∷ if_there (λ elst. fault_of (elst_of elst.place elst.body)) (list_in edts) ∷ [])
    (where_there has_boxes edts whole, (where_there (has_at_most_one (codes "elst")) edts (one_or_none (codes "elst")), (where_there (λ elst. fault_of (elst_of elst.place elst.body)) (list_in edts) list_names, tt)))

-- ---- tracks and the movie

track_names : (size : ℕ) (earlier : List Box) (trak : Box) → Names (track_fault size earlier trak)
unfolding track_fault
track_names size earlier trak =
    let boxes = boxes_of trak in
    first_of (track_checks size earlier trak) (whole trak, (the_one (codes "tkhd") trak, (the_one (codes "mdia") trak, (one_or_none (codes "edts") trak, (tkhd_names boxes.tkhd.place boxes.tkhd.body, (tests boxes.tkhd.place ((number_in boxes == 0, TrackId) ∷ (list_any (λ other. number_in (boxes_of other) == number_in boxes) earlier, TrackId) ∷ []) (refl, (refl, tt)), (whole boxes.mdia, (the_one (codes "mdhd") boxes.mdia, (the_one (codes "hdlr") boxes.mdia, (the_one (codes "minf") boxes.mdia, (mdhd_names boxes.mdhd.place boxes.mdhd.body, (hdlr_names boxes.hdlr.place boxes.hdlr.body, (whole boxes.minf, (the_one (codes "dinf") boxes.minf, (the_one (codes "stbl") boxes.minf, (whole boxes.dinf, (the_one (codes "dref") boxes.dinf, (references_name boxes.dref, (tables_name boxes.stbl, (entries_name (local_references boxes.dref) boxes.stsd, (counts_name (sum_by (λ other. count_in (boxes_of other)) earlier) boxes, (places_name (length (entries_of (local_references boxes.dref) boxes.stsd)) size boxes, (edits_name boxes.edts, tt)))))))))))))))))))))))

tracks_name : (size : ℕ) (earlier traks : List Box) → Names (tracks_fault size earlier traks)
unfolding tracks_fault
tracks_name size earlier [] = tt
tracks_name size earlier (trak ∷ traks) = first_of (track_fault size earlier trak ∷ tracks_fault size (earlier ++ trak ∷ []) traks ∷ []) (track_names size earlier trak, (tracks_name size (earlier ++ trak ∷ []) traks, tt))

pub movie_names : (size : ℕ) (moov : Box) → Names (movie_fault size moov)
unfolding movie_fault
movie_names size moov =
    first_of (movie_checks size moov) (tests moov.place ((nat_lt most_moov (length (whole_box moov)), MoovLimit) ∷ []) (refl, tt), (whole moov, (none_names Fragmented (of_kind (codes "mvex") (boxes_in moov)) refl, (none_names Compressed (of_kind (codes "cmov") (boxes_in moov)) refl, (the_one (codes "mvhd") moov, (mvhd_names (the (codes "mvhd") moov).place (the (codes "mvhd") moov).body, (tests 0 ((nat_lt most_tracks (length (traks_in moov)), TrackLimit) ∷ []) (refl, tt), (tracks_name size [] (traks_in moov), tt))))))))

-- ---- answers

-- the fault of a head, at its place
pub head_refused : (top : Bool) (front : List ℕ) (rest place : ℕ) (code : Code) → Err code ≡ head_from top front rest → IsFileRefusal (bad_at code place)
head_refused top front rest place code e = record { code = subst FailsSo (sym e) (behind (head_fault top front rest) (record { kind = kind_at front 4; head = header_len front; len = box_size front rest }) (head_codes top front rest)); command = refl; named = refl }

names_of : {A : Type 0} (fault : Option Bad) (value : A) (bad : Bad) → Names fault → unless fault value ≡ Err bad → IsFileRefusal bad
names_of None value bad h e = absurd cc
names_of (Some found) value bad h e = let same : found ≡ bad = cc in subst IsFileRefusal same h

-- what is answered to the bytes of a movie box
pub bytes_refused : (size : ℕ) (box : Box) (r : Result MovieTablesRecord Fail) → Gives refusal (λ (movie : MovieTablesRecord). movie) r (unless (movie_fault size box) (movie_tables box)) → IfErr r (λ fail. IfSome (refusal fail) IsFileRefusal)
bytes_refused size box (Ok movie) given = tt
bytes_refused size box (Err fail) given = by (refusal fail) given
  where
    by : (why : Option Bad) → IfSome why (λ bad. unless (movie_fault size box) (movie_tables box) ≡ Err bad) → IfSome why IsFileRefusal
    by None given = tt
    by (Some bad) given = names_of (movie_fault size box) (movie_tables box) bad (movie_names size box) given

-- a failure that refuses nothing
pub not_refused : (fail : ReadFail) → ((bad : Bad) → fail ≢ RefusedRead bad) → IfSome (read_refusal fail) IsFileRefusal
not_refused (RefusedRead bad) none = absurd (none bad refl)
not_refused ReadFault none = tt
not_refused NoMemory none = tt

-- The parts by tables without a fault are within the limits.
use Rattle.std.proofs.Common.{◌≡◌, ℕ, ℤ, zero, suc, pos, ◌+◌, ◌-◌, ◌^◌, ◌<◌, ◌≤◌, nat_le, nat_lt, ltb, Bool, true, false, List, [], ◌∷◌, ◌++◌, All, length, map, drop, replicate, Option, Some, None, IfSome, Result, Ok, Err, inl, inr, refl, sym, ap, subst, ◌∙◌, arith, ltb-true}
use Rattle.std.specs.Prelude.{codes, FitsSigned, ◌==◌}
use Rattle.std.specs.Int.{w32, FitsUnsigned, cast_signed}
use Rattle.std.specs.List.{AllByRecursion, list_any}
use Rattle.std.specs.Str.{bytes_eq}
use Rattle.std.proofs.lemmas.Bool.{leb-false, ltb-false}
use Rattle.std.proofs.lemmas.Int.{ints}
use Rattle.std.proofs.lemmas.List.{length-map}
use Rattle.std.proofs.lemmas.List.Elements.{All-append, All-nil, All-replicate}
use Rattle.std.proofs.lemmas.List.Sums.{sum_by-append, sum_by-cons}
use Rattle.mp_ports.specs.declared.code.Code.{Code}
use Rattle.mp_ports.specs.declared.code.Code.TheVariants.{DurationLimit, SegmentLimit, StartLimit, TrackLimit}
use Rattle.mp_ports.specs.declared.fault.Bad.{Bad}
use Rattle.mp_ports.specs.Checks.{fault_at, first_code, first_some, unless}
use Rattle.mp_boxes.specs.Boxes.{Box, IsBytes, body_place}
use Rattle.mp_boxes.specs.Format.{bodies, parts_of}
use Rattle.mp_boxes.specs.FullBox.{first_row, row_count, rows_of, table_fault, table_rows, version}
use Rattle.mp_boxes.specs.Number.{u32_at}
use Rattle.mp_boxes.specs.Reading.{value_or}
use Rattle.mp_columns.specs.declared.columns.TheConstants.{MOST_ITEMS}
use Rattle.mp_chunks.specs.Samples.{TablesGiveSamples}
use Rattle.mp_edits.specs.EditBox.{edits_by}
use Rattle.mp_edits.specs.Segments.{most_segments, starts_late, total}
use Rattle.mp_edits.specs.Table.{count_checks, edits_of as listed, elst_checks, elst_faults, entries, entries_fault, limit_checks, segments}
use Rattle.mp_entries.specs.Description.{KeptAreEntries, most_entries, stsd_of}
use Rattle.mp_timeline.specs.declared.segment.Segment.{Segment}
use Rattle.mp_times.specs.Times.{offset, per_sample, run_len}
use Rattle.mp_times.specs.Written.{FitOffsets}
use Rattle.mp_movie.specs.Children.{boxes_in}
use Rattle.mp_movie.specs.Edits.{edits_of}
use Rattle.mp_movie.specs.Entries.{entries_of, local_references}
use Rattle.mp_movie.specs.Limits.{FitsEdits, most_tracks}
use Rattle.mp_movie.specs.PartsFit.{first_limit}
use Rattle.mp_movie.specs.PartsLaw.{AreWithinLimits, LimitsAreOfTracks}
use Rattle.mp_movie.specs.Placed.{PlacedTrack, sample_count}
use Rattle.mp_movie.specs.Present.{movie_checks, movie_fault, traks_in}
use Rattle.mp_movie.specs.SampleTable.{composition_offsets_of, count_in}
use Rattle.mp_movie.specs.TrackBoxes.{boxes_of}
use Rattle.mp_movie.specs.Tracks.{track_fault, tracks_fault}
use Rattle.mp_read.specs.Columns.{columns_in}
use Rattle.mp_read.specs.Law.{TablesFit}
use Rattle.mp_read.specs.Movie.{MovieTablesRecord, movie_tables}
use Rattle.mp_read.specs.Parts.{placed_movie, placed_track}
use Rattle.mp_read.specs.Track.{samples_in, tables_of}
use Rattle.mp_read.proofs.BytesStay.{dropped}
use Rattle.mp_read.proofs.ByteBoxes.{AreBytes, children_are, filtered, track_boxes_are}
use Rattle.mp_read.proofs.Ranges.{u32_below}
use Rattle.mp_read.proofs.SizesFit.{fits_field, rows_bytes, sizes_fit}
use Rattle.mp_read.proofs.TracksPass.{are_counted, durations_len, not_failed, track_passes}
use Rattle.mp_read.proofs.WithinFile.{all_hold}

-- ---- times

-- each item of a table of bytes is a value of 32 bits
values_of_bits : (P : ℤ → Type 0) (value : ℕ → ℤ) → ((n : ℕ) → n < 2 ^ 32 → P (value n)) → (rows : List (List ℕ)) → AllByRecursion IsBytes rows → All P (per_sample value rows)
values_of_bits P value each [] bytes = All-nil P
values_of_bits P value each (row ∷ rows) bytes =
    All-append P (replicate (u32_at row 0) (value (u32_at row 4))) (per_sample value rows) (All-replicate P (u32_at row 0) (value (u32_at row 4)) (each (u32_at row 4) (u32_below row 4 bytes.0))) (values_of_bits P value each rows bytes.1)

-- the items of a table that is read, or none
items_of_bits : (P : ℤ → Type 0) (value : ℕ → ℤ) (fault : Option Code) (body : List ℕ) → ((n : ℕ) → n < 2 ^ 32 → P (value n)) → IsBytes body → All P (value_or [] (unless fault (per_sample value (table_rows run_len body))))
items_of_bits P value None body each bytes = values_of_bits P value each (table_rows run_len body) (rows_bytes (row_count body) run_len (drop first_row body) (dropped first_row body bytes))
items_of_bits P value (Some code) body each bytes = All-nil P

signed_field : (n : ℕ) → n < 2 ^ 32 → FitsSigned w32 (cast_signed w32 n)
signed_field n lt = by (ltb n 2147483648) refl
  where
    by : (b : Bool) → ltb n 2147483648 ≡ b → FitsSigned w32 (cast_signed w32 n)
    by true small = rw small (omega (arith, ints, ltb-true n 2147483648 small))
    by false large = rw large (omega (arith, ints, lt, ltb-false n 2147483648 large))

offsets_fit : (samples : ℕ) (ctts : Option Box) → IfSome ctts AreBytes → FitOffsets (composition_offsets_of samples ctts)
offsets_fit samples None bytes = inl (All-replicate (FitsUnsigned w32) samples (pos 0) (fits_field 0 (omega arith)))
offsets_fit samples (Some ctts) bytes = by (version ctts.body == 1) refl
  where
    by : (b : Bool) → (version ctts.body == 1) ≡ b → FitOffsets (composition_offsets_of samples (Some ctts))
    by true e = inr (items_of_bits (FitsSigned w32) (offset (version ctts.body)) (table_fault 1 run_len ctts.body) ctts.body (λ n lt. rw e (signed_field n lt)) bytes.body)
    by false e = inl (items_of_bits (FitsUnsigned w32) (offset (version ctts.body)) (table_fault 1 run_len ctts.body) ctts.body (λ n lt. rw e (fits_field n lt)) bytes.body)

-- ---- edits

-- the rows of a table are as many as it says
so_many_rows : (count width : ℕ) (bytes : List ℕ) → length (rows_of count width bytes) ≡ count
unfolding rows_of
so_many_rows zero width bytes = refl
so_many_rows (suc count) width bytes = ap suc (so_many_rows count width (drop width bytes))

-- none of the limits of segments is passed
record KeepLimits (body : List ℕ) : Type 0 where
  few : nat_lt most_segments (row_count body) ≡ false
  short : nat_le (2 ^ 62) (total (segments body)) ≡ false
  early : list_any starts_late (segments body) ≡ false

two_tests : (a b : Bool) → fault_at 0 (first_code ((a, DurationLimit) ∷ (b, StartLimit) ∷ [])) ≡ None → (a ≡ false) × (b ≡ false)
two_tests true b e = absurd cc
two_tests false true e = absurd cc
two_tests false false e = (refl, refl)

keep_limits : (body : List ℕ) → first_some (elst_faults 0 body) ≡ None → KeepLimits body
keep_limits body e =
    let each = all_hold (fault_at 0 (first_code (elst_checks body)) ∷ fault_at 0 (first_code (count_checks body)) ∷ fault_at 0 (entries_fault (entries body)) ∷ fault_at 0 (first_code (limit_checks (segments body))) ∷ []) e in
    let limits = two_tests (nat_le (2 ^ 62) (total (segments body))) (list_any starts_late (segments body)) each.1.1.1.0 in
    record { few = not_failed 0 (nat_lt most_segments (row_count body)) SegmentLimit each.1.0; short = limits.0; early = limits.1 }

segments_len : (body : List ℕ) → length (segments body) ≡ row_count body
segments_len body = length-map (entries body) _ ∙ (length-map (table_rows _ body) _ ∙ so_many_rows (row_count body) _ (drop first_row body))

listed_fit : (edits : List Segment) → total edits < 2 ^ 62 → list_any starts_late edits ≡ false → length edits ≤ most_segments → IfSome (listed edits) FitsEdits
listed_fit [] short early few = tt
listed_fit (edit ∷ edits) short early few = record { short = short; early = early; few = few }

by_lists_fit : (lists : List (List ℕ)) → IfSome (edits_by lists) FitsEdits
by_lists_fit [] = tt
by_lists_fit (list ∷ lists) = by (first_some (elst_faults 0 list)) refl
  where
    by : (fault : Option Bad) → first_some (elst_faults 0 list) ≡ fault → IfSome (value_or None (unless fault (listed (segments list)))) FitsEdits
    by None e =
        let kept = keep_limits list e in
        let few = ltb-false most_segments (row_count list) kept.few in
        let long = segments_len list in
        listed_fit (segments list) (leb-false (2 ^ 62) (total (segments list)) kept.short) kept.early (omega (arith, few, long))
    by (Some bad) e = tt

edits_fit : (edts : Option Box) → IfSome (edits_of edts) FitsEdits
unfolding edits_of
edits_fit None = tt
edits_fit (Some box) = by_lists_fit (bodies (codes "elst") (value_or [] (parts_of box.body)))

-- ---- entries

entries_fit : KeptAreEntries → (local : List Bool) (stsd : Box) → length (entries_of local stsd) ≤ most_entries
unfolding entries_of
entries_fit law local stsd = by (stsd_of stsd.place (body_place stsd) local stsd.body) refl
  where
    by : (r : Result (List (List ℕ)) Bad) → stsd_of stsd.place (body_place stsd) local stsd.body ≡ r → length (value_or [] r) ≤ most_entries
    by (Ok kept) e = law.few stsd.place (body_place stsd) local stsd.body kept e
    by (Err bad) e = omega arith

-- ---- tracks

-- the laws of the tables beneath
pub record Laws : Type 0 where
  pub samples : TablesGiveSamples
  pub kept : KeptAreEntries
  pub limits : LimitsAreOfTracks

track_within : Laws → (file : ℕ) (trak : Box) → AreBytes trak → AreWithinLimits (placed_track file (tables_of trak))
unfolding tables_of columns_in
track_within laws file trak bytes =
    let boxes = boxes_of trak in
    let are = track_boxes_are trak bytes.body in
    record {
      durations = items_of_bits (FitsUnsigned w32) pos (table_fault 0 run_len boxes.stts.body) boxes.stts.body fits_field are.stts;
      offsets = offsets_fit (count_in boxes) boxes.ctts are.ctts;
      edits = edits_fit boxes.edts;
      sizes = sizes_fit laws.samples boxes are.sizes;
      entries = entries_fit laws.kept (local_references boxes.dref) boxes.stsd;
    }

tracks_within : Laws → (file : ℕ) (traks : List Box) → AllByRecursion AreBytes traks → AllByRecursion AreWithinLimits (map (placed_track file) (map tables_of traks))
tracks_within laws file [] bytes = tt
tracks_within laws file (trak ∷ traks) bytes = (track_within laws file trak bytes.0, tracks_within laws file traks bytes.1)

-- ---- samples of all tracks

samples_more : (earlier : List Box) (trak : Box) → samples_in (earlier ++ trak ∷ []) ≡ samples_in earlier + count_in (boxes_of trak)
samples_more earlier trak =
    omega (arith, sum_by-append (λ trak. count_in (boxes_of trak)) earlier (trak ∷ []), sum_by-cons (λ trak. count_in (boxes_of trak)) trak [])

samples_fit : (file size : ℕ) (earlier traks : List Box) → tracks_fault size earlier traks ≡ None → samples_in earlier ≤ MOST_ITEMS
    → samples_in earlier + sample_count (map (placed_track file) (map tables_of traks)) ≤ MOST_ITEMS
unfolding tracks_fault tables_of columns_in
samples_fit file size earlier [] e few = omega (arith, few)
samples_fit file size earlier (trak ∷ traks) e few =
    let each = all_hold (track_fault size earlier trak ∷ tracks_fault size (earlier ++ trak ∷ []) traks ∷ []) e in
    let counted = are_counted (samples_in earlier) (boxes_of trak) (track_passes size earlier trak each.0).counts in
    let here = counted.few in
    let long = durations_len (samples_in earlier) (boxes_of trak) counted in
    let more = samples_more earlier trak in
    let rest = samples_fit file size (earlier ++ trak ∷ []) traks each.1.0 (omega (arith, more, here)) in
    let sum = sum_by-cons (λ (t : PlacedTrack). length t.deltas) (placed_track file (tables_of trak)) (map (placed_track file) (map tables_of traks)) in
    omega (arith, rest, more, long, sum)

-- ---- the movie

box_fits : Laws → (file size : ℕ) (moov : Box) → IsBytes moov.body → movie_fault size moov ≡ None → first_limit (placed_movie file (movie_tables moov)) ≡ None
unfolding movie_fault movie_tables
box_fits laws file size moov bytes e =
    let each = all_hold (movie_checks size moov) e in
    let traks = traks_in moov in
    let are = filtered AreBytes (λ box. bytes_eq box.kind (codes "trak")) (boxes_in moov) (children_are moov bytes) in
    let few = ltb-false most_tracks (length traks) (not_failed 0 (nat_lt most_tracks (length traks)) TrackLimit each.1.1.1.1.1.1.0) in
    let samples = samples_fit file size [] traks each.1.1.1.1.1.1.1.0 (omega arith) in
    let long = length-map (map tables_of traks) (placed_track file) ∙ length-map traks tables_of in
    laws.limits (placed_movie file (movie_tables moov)) (tracks_within laws file traks are) (omega (arith, samples)) (omega (arith, few, long))

pub tables_fit : Laws → TablesFit
tables_fit laws file size movie h = subst (λ (m : MovieTablesRecord). first_limit (placed_movie file m) ≡ None) (sym h.is) (box_fits laws file size h.moov h.bytes h.passes)

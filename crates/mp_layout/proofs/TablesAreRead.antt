-- What the tables of a track say is what was written, and no check of them fails.
use Rattle.std.proofs.Common.{◌≡◌, ℕ, ◌+◌, ◌^◌, ◌<◌, ◌≤◌, inl, inr, Bool, true, false, cond, List, [], ◌∷◌, length, map, replicate, ℤ, pos, Option, Some, None, Result, Ok, Err, refl, sym, ap, ◌∙◌, arith}
use Rattle.std.specs.Prelude.{codes, ◌-ℤ◌, unsigned_abs, All}
use Rattle.std.specs.Int.{w32, FitsUnsigned}
use Rattle.std.specs.Ordering.{int_eq}
use Rattle.std.specs.List.{AllByRecursion, list_all, sum_by}
use Rattle.std.proofs.lemmas.Bool.{le-ltb, eq-eqb, and_parts}
use Rattle.std.proofs.lemmas.Int.{ints}
use Rattle.std.proofs.lemmas.List.{length-map, length-replicate}
use Rattle.std.proofs.lemmas.List.Concat.{length-flat_map}
use Rattle.std.proofs.lemmas.List.Elements.{All-from_recursion}
use Rattle.mp_ports.specs.Checks.{fault_at, first_code, unless}
use Rattle.mp_boxes.specs.Boxes.{Box}
use Rattle.mp_boxes.specs.Number.{u32_at}
use Rattle.mp_boxes.specs.Field.{Part}
use Rattle.mp_boxes.specs.FullBox.{table_fault, table_rows, version}
use Rattle.mp_columns.specs.declared.columns.TheConstants.{MOST_ITEMS}
use Rattle.mp_times.specs.Times.{ctts_of, newest_version, offset, per_sample, run_len, sample_count as count_of_rows, stts_of, unfolded}
use Rattle.mp_times.specs.Sync.{is_sync, stss_fault, stss_of}
use Rattle.mp_times.specs.Written.{FitOffsets, IsMark, are_signed, ctts, runs_body, stss, stss_body, sync_numbers}
use Rattle.mp_chunks.specs.Samples.{Bodies, chunks_fault_of, outside_fault, samples_by}
use Rattle.mp_chunks.specs.Sizes.{sample_count, size_checks}
use Rattle.mp_timeline.specs.Movie.{SampleRecord, TrackRecord}
use Rattle.mp_movie.specs.Readings.{fault_of, if_there}
use Rattle.mp_movie.specs.TrackBoxes.{TrackBoxes}
use Rattle.mp_movie.specs.SampleTable.{bodies_in, composition_offsets_of, count_in, counts_fault, durations_of, has_count, places_fault, sync_marks_of, table_of, unfolded_at}
use Rattle.mp_movie.specs.Columns.{composition_offsets, durations, sync_marks}
use Rattle.mp_movie.specs.Limits.{FitsTrack}
use Rattle.mp_times.specs.Law.{TimesAreRead}
use Rattle.mp_layout.proofs.Laws.{IsPlaced, bytes_at}
use Rattle.mp_layout.proofs.SamplesAreRead.{AreColumns}

-- ---- readings

pub both : {A E : Type 0} (fault : Option E) (value got : A) → unless fault value ≡ Ok got → (fault ≡ None) × (value ≡ got)
both {E = E} None value got e = (refl, same {E = E} value got e)
  where
    same : {A E : Type 0} (x y : A) → (let one : Result A E = Ok x in let other : Result A E = Ok y in one ≡ other) → x ≡ y
    same x y e = cc
both (Some fault) value got e = absurd (apart fault got e)
  where
    apart : {A E : Type 0} (x : E) (y : A) → Err x ≡ Ok y → ⊥
    apart x y e = cc

-- ---- how many samples the rows of a table speak of

rows-count : {A : Type 0} (value : ℕ → A) (rows : List (List ℕ)) → length (per_sample value rows) ≡ count_of_rows rows
rows-count value rows = length-flat_map (λ (row : List ℕ). replicate (u32_at row 0) (value (u32_at row 4))) rows ∙ ap (λ (g : List ℕ → ℕ). sum_by g rows) (λ i row. length-replicate (u32_at row 0) (value (u32_at row 4)) i)

-- a table that gives an item for each sample says how many there are
stts-count : (body : List ℕ) (items : List ℤ) → stts_of body ≡ Ok items → unfolded false body ≡ Ok (length items)
stts-count body items e =
    let read = both (table_fault (newest_version false) run_len body) _ items e in
    rw read.0 (ap Ok (sym (rows-count pos (table_rows run_len body)) ∙ ap length read.1))

ctts-count : (body : List ℕ) (items : List ℤ) → ctts_of body ≡ Ok items → unfolded true body ≡ Ok (length items)
ctts-count body items e =
    let read = both (table_fault (newest_version true) run_len body) _ items e in
    rw read.0 (ap Ok (sym (rows-count (offset (version body)) (table_rows run_len body)) ∙ ap length read.1))

stss-sound : (samples : ℕ) (body : List ℕ) (items : List ℤ) → stss_of samples body ≡ Ok items → stss_fault samples body ≡ None
stss-sound samples body items e = (both (stss_fault samples body) _ items e).0

-- ---- columns of one number

is_equal : (x y : ℤ) → int_eq x y ≡ true → x ≡ y
is_equal x y e = grind (arith, ints, e)

zeros : (offsets : List ℤ) → list_all (int_eq (pos 0)) offsets ≡ true → replicate (length offsets) (pos 0) ≡ offsets
zeros [] e = refl
zeros (offset ∷ offsets) e =
    let parts = and_parts (int_eq (pos 0) offset) (list_all (int_eq (pos 0)) offsets) e in
    λ i. is_equal (pos 0) offset parts.0 i ∷ zeros offsets parts.1 i

ones : (marks : List ℤ) → list_all is_sync marks ≡ true → replicate (length marks) (pos 1) ≡ marks
ones [] e = refl
ones (mark ∷ marks) e =
    let parts = and_parts (is_sync mark) (list_all is_sync marks) e in
    λ i. sym (is_equal mark (pos 1) parts.0) i ∷ ones marks parts.1 i

plain_durations : (samples : List SampleRecord) → map unsigned_abs (durations samples) ≡ map (λ sample. sample.dur) samples
plain_durations [] = refl
plain_durations (sample ∷ samples) = ap (λ (xs : List ℕ). sample.dur ∷ xs) (plain_durations samples)

fits_32 : (n : ℕ) → n < 2 ^ 32 → FitsUnsigned w32 (pos n)
fits_32 n fits = (grind (arith, ints), grind (arith, ints))

durations_fit : (samples : List SampleRecord) → AllByRecursion (λ sample. sample.dur < 2 ^ 32) samples → AllByRecursion (FitsUnsigned w32) (durations samples)
durations_fit [] fits = tt
durations_fit (sample ∷ samples) fits = (fits_32 sample.dur fits.0, durations_fit samples fits.1)

are_marks : (samples : List SampleRecord) → AllByRecursion IsMark (sync_marks samples)
are_marks [] = tt
are_marks (sample ∷ samples) = (by sample.sync, are_marks samples)
  where
    by : (sync : Bool) → IsMark (cond sync (pos 1) (pos 0))
    by true = inr refl
    by false = inl refl

-- ---- the boxes

-- a box that may be there is that of a part
abbrev pub IsOptional : Option Box → Option Part → Type 0
IsOptional None None = Unit {0}
IsOptional (Some box) (Some part) = box.body ≡ part.body
IsOptional _ _ = ⊥

-- the boxes of the samples of a track
pub record AreSampleBoxes (boxes : TrackBoxes) (samples : List SampleRecord) (bodies : Bodies) : Type 0 where
  pub stts : boxes.stts.body ≡ runs_body false (durations samples)
  pub ctts : IsOptional boxes.ctts (ctts (composition_offsets samples))
  pub stss : IsOptional boxes.stss (stss (sync_marks samples))
  pub same : bodies_in boxes ≡ bodies

-- what is read of the box of composition offsets
record AreOffsets (box : Option Box) (samples : ℕ) (offsets : List ℤ) : Type 0 where
  pub read : composition_offsets_of samples box ≡ offsets
  pub sound : if_there (λ ctts. fault_of (unfolded_at true ctts)) box ≡ None
  pub counted : if_there (has_count samples true) box ≡ None

offsets-at : TimesAreRead → (box : Option Box) (samples : ℕ) (offsets : List ℤ) → samples ≡ length offsets → length offsets < 2 ^ 32 → FitOffsets offsets → IsOptional box (ctts offsets) → AreOffsets box samples offsets
offsets-at times box samples offsets len few fits = by box (list_all (int_eq (pos 0)) offsets) refl
  where
    by : (box : Option Box) (b : Bool) → list_all (int_eq (pos 0)) offsets ≡ b → IsOptional box (cond b None (Some (record { kind = codes "ctts"; body = runs_body (are_signed offsets) offsets }))) → AreOffsets box samples offsets
    by None true e h = record { read = ap (λ (n : ℕ). replicate n (pos 0)) len ∙ zeros offsets e; sound = refl; counted = refl }
    by None false e h = absurd h
    by (Some box) true e h = absurd h
    by (Some box) false e h =
        let read : ctts_of box.body ≡ Ok offsets = ap ctts_of h ∙ times.offsets offsets few fits in
        let count = ctts-count box.body offsets read in
        record { read = rw read refl; sound = rw count refl; counted = rw (count, len, eq-eqb (length offsets) (length offsets) refl) refl }

-- and of the box of sync samples
record AreSyncs (box : Option Box) (samples : ℕ) (marks : List ℤ) : Type 0 where
  pub read : sync_marks_of samples box ≡ marks
  pub sound : if_there (λ stss. fault_at stss.place (stss_fault samples stss.body)) box ≡ None

syncs-at : TimesAreRead → (box : Option Box) (samples : ℕ) (marks : List ℤ) → samples ≡ length marks → length marks < 2 ^ 32 → All IsMark marks → IsOptional box (stss marks) → AreSyncs box samples marks
syncs-at times box samples marks len few are = by box (list_all is_sync marks) refl
  where
    by : (box : Option Box) (b : Bool) → list_all is_sync marks ≡ b → IsOptional box (cond b None (Some (record { kind = codes "stss"; body = stss_body (sync_numbers 1 marks) }))) → AreSyncs box samples marks
    by None true e h = record { read = ap (λ (n : ℕ). replicate n (pos 1)) len ∙ ones marks e; sound = refl }
    by None false e h = absurd h
    by (Some box) true e h = absurd h
    by (Some box) false e h =
        let read : stss_of samples box.body ≡ Ok marks = ap (stss_of samples) h ∙ (ap (λ (n : ℕ). stss_of n (stss_body (sync_numbers 1 marks))) len ∙ times.syncs marks few are) in
        record { read = rw read refl; sound = ap (fault_at box.place) (stss-sound samples box.body marks read) }

-- ---- all tables

columns-ok : (file : List ℕ) (boxes : TrackBoxes) (samples : List SampleRecord) → durations_of boxes.stts ≡ map (λ sample. sample.dur) samples
    → composition_offsets_of (count_in boxes) boxes.ctts ≡ composition_offsets samples → sync_marks_of (count_in boxes) boxes.stss ≡ sync_marks samples
    → map (bytes_at file) (samples_by (bodies_in boxes)) ≡ map (λ sample. sample.bytes) samples → map (λ place. place.kind) (samples_by (bodies_in boxes)) ≡ map (λ sample. sample.entry) samples
    → AreColumns file (table_of boxes) samples
unfolding table_of
columns-ok file boxes samples e1 e2 e3 e4 e5 = record { durations = e1; offsets = e2; marks = e3; bytes = e4; kinds = e5 }

counts-ok : (before : ℕ) (boxes : TrackBoxes) → unfolded false boxes.stts.body ≡ Ok (count_in boxes) → if_there (λ ctts. fault_of (unfolded_at true ctts)) boxes.ctts ≡ None
    → first_code (size_checks (bodies_in boxes).compact boxes.sizes.body) ≡ None → if_there (has_count (count_in boxes) true) boxes.ctts ≡ None → before + count_in boxes ≤ MOST_ITEMS → counts_fault before boxes ≡ None
unfolding counts_fault
counts-ok before boxes e1 e2 e3 e4 few = rw (e1, e2, e3, eq-eqb (count_in boxes) (count_in boxes) refl, e4, le-ltb MOST_ITEMS (before + count_in boxes) few) refl

places-ok : (entries file_size : ℕ) (boxes : TrackBoxes) → chunks_fault_of entries boxes.stsc.place boxes.places.place (bodies_in boxes) ≡ None
    → if_there (λ stss. fault_at stss.place (stss_fault (count_in boxes) stss.body)) boxes.stss ≡ None → outside_fault file_size (samples_by (bodies_in boxes)) ≡ None → places_fault entries file_size boxes ≡ None
unfolding places_fault
places-ok entries file_size boxes e1 e2 e3 = rw (e1, e2, e3) refl

-- the samples of a track are read, and no check of their tables fails, behind so many samples
pub record AreSamplesRead (file : List ℕ) (entries before : ℕ) (boxes : TrackBoxes) (samples : List SampleRecord) : Type 0 where
  pub columns : AreColumns file (table_of boxes) samples
  pub count : count_in boxes ≡ length samples
  pub counts : counts_fault before boxes ≡ None
  pub places : places_fault entries (length file) boxes ≡ None

pub samples-at : TimesAreRead → (file : List ℕ) (entries before : ℕ) (boxes : TrackBoxes) (track : TrackRecord) (bodies : Bodies) → AreSampleBoxes boxes track.samples bodies → IsPlaced file entries track.samples bodies → FitsTrack track
    → before + length track.samples ≤ MOST_ITEMS → AreSamplesRead file entries before boxes track.samples
samples-at times file entries before boxes track bodies h placed fits few =
    let samples : List SampleRecord = track.samples in
    let size : boxes.sizes.body ≡ bodies.sizes = ap (λ (b : Bodies). b.sizes) h.same in
    let compact : (bodies_in boxes).compact ≡ false = ap (λ (b : Bodies). b.compact) h.same ∙ placed.plain in
    let count : count_in boxes ≡ length samples = ap sample_count size ∙ placed.count in
    let few_durations : length (durations samples) < 2 ^ 32 = omega (arith, few, length-map samples (λ (sample : SampleRecord). pos sample.dur)) in
    let few_offsets : length (composition_offsets samples) < 2 ^ 32 = omega (arith, few, length-map samples (λ (sample : SampleRecord). sample.comp -ℤ pos sample.decode)) in
    let few_marks : length (sync_marks samples) < 2 ^ 32 = omega (arith, few, length-map samples (λ (sample : SampleRecord). cond sample.sync (pos 1) (pos 0))) in
    let ticks : stts_of boxes.stts.body ≡ Ok (durations samples) = ap stts_of h.stts ∙ times.durations (durations samples) few_durations (All-from_recursion (FitsUnsigned w32) (durations samples) (durations_fit samples fits.durations)) in
    let offsets = offsets-at times boxes.ctts (count_in boxes) (composition_offsets samples) (count ∙ sym (length-map samples (λ (sample : SampleRecord). sample.comp -ℤ pos sample.decode))) few_offsets fits.offsets h.ctts in
    let syncs = syncs-at times boxes.stss (count_in boxes) (sync_marks samples) (count ∙ sym (length-map samples (λ (sample : SampleRecord). cond sample.sync (pos 1) (pos 0)))) few_marks
    (All-from_recursion IsMark (sync_marks samples) (are_marks samples)) h.stss in
    record {
      columns = columns-ok file boxes samples (rw ticks (plain_durations samples)) offsets.read syncs.read (ap (λ (b : Bodies). map (bytes_at file) (samples_by b)) h.same ∙ placed.bytes)
          (ap (λ (b : Bodies). map (λ place. place.kind) (samples_by b)) h.same ∙ placed.kinds);
      count = count;
      counts = counts-ok before boxes (stts-count boxes.stts.body (durations samples) ticks ∙ ap Ok (length-map samples (λ (sample : SampleRecord). pos sample.dur) ∙ sym count)) offsets.sound
          (rw (compact, size) placed.sizes) offsets.counted (omega (arith, few, count));
      places = places-ok entries (length file) boxes (ap (chunks_fault_of entries boxes.stsc.place boxes.places.place) h.same ∙ placed.mapped boxes.stsc.place boxes.places.place) syncs.sound
          (ap (λ (b : Bodies). outside_fault (length file) (samples_by b)) h.same ∙ placed.inside);
    }

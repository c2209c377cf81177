-- What holds of a track box of which no check fails.
use Rattle.std.proofs.Common.{◌≡◌, ℕ, pos, ◌+◌, ◌≤◌, Bool, true, false, not, nat_lt, List, [], ◌∷◌, length, replicate, Option, Some, None, refl, ◌∙◌, arith}
use Rattle.std.specs.Prelude.{◌==◌}
use Rattle.std.proofs.lemmas.Bool.{ltb-false}
use Rattle.std.proofs.lemmas.List.{length-append, length-replicate}
use Rattle.std.proofs.lemmas.List.Sums.{sum_by-cons}
use Rattle.mp_ports.specs.declared.code.Code.{Code}
use Rattle.mp_ports.specs.declared.code.Code.TheVariants.{SampleLimit}
use Rattle.mp_ports.specs.Checks.{fault_at, first_code, placed, unless}
use Rattle.mp_boxes.specs.Boxes.{Box}
use Rattle.mp_boxes.specs.FullBox.{table_fault, table_rows}
use Rattle.mp_boxes.specs.Number.{u32_at}
use Rattle.mp_boxes.specs.Reading.{value_or}
use Rattle.mp_columns.specs.declared.columns.TheConstants.{MOST_ITEMS}
use Rattle.mp_chunks.specs.Sizes.{size_checks}
use Rattle.mp_chunks.specs.Samples.{TablesGiveSamples, samples_by}
use Rattle.mp_headers.specs.TrackHeader.{tkhd_of}
use Rattle.mp_headers.specs.MediaHeader.{mdhd_of}
use Rattle.mp_headers.specs.Handler.{hdlr_of}
use Rattle.mp_times.specs.Times.{per_sample, run_len, sample_count, stts_of}
use Rattle.mp_movie.specs.Readings.{fault_of, if_there}
use Rattle.mp_movie.specs.Children.{has_boxes}
use Rattle.mp_movie.specs.Edits.{edits_fault}
use Rattle.mp_movie.specs.Entries.{entries_fault, entries_of, local_references}
use Rattle.mp_movie.specs.SampleTable.{bodies_in, count_in, counts_fault, has_count, places_fault, unfolded_at}
use Rattle.mp_movie.specs.TrackBoxes.{TrackBoxes, boxes_of}
use Rattle.mp_movie.specs.Tracks.{has_own_number, track_checks, track_fault}
use Rattle.mp_read.specs.Track.{samples_in}
use Rattle.mp_read.proofs.WithinFile.{all_hold}

-- none of the checks that say what is read fails
pub record Passes (size : ℕ) (earlier : List Box) (trak : Box) : Type 0 where
  pub boxes : has_boxes trak ≡ None
  pub tkhd : fault_of (tkhd_of (boxes_of trak).tkhd.place (boxes_of trak).tkhd.body) ≡ None
  pub number : has_own_number earlier (boxes_of trak) ≡ None
  pub mdhd : fault_of (mdhd_of (boxes_of trak).mdhd.place (boxes_of trak).mdhd.body) ≡ None
  pub hdlr : fault_of (hdlr_of (boxes_of trak).hdlr.place (boxes_of trak).hdlr.body) ≡ None
  pub entries : entries_fault (local_references (boxes_of trak).dref) (boxes_of trak).stsd ≡ None
  pub counts : counts_fault (samples_in earlier) (boxes_of trak) ≡ None
  pub places : places_fault (length (entries_of (local_references (boxes_of trak).dref) (boxes_of trak).stsd)) size (boxes_of trak) ≡ None
  pub edits : edits_fault (boxes_of trak).edts ≡ None

pub track_passes : (size : ℕ) (earlier : List Box) (trak : Box) → track_fault size earlier trak ≡ None → Passes size earlier trak
unfolding track_fault
track_passes size earlier trak e =
    let each = all_hold (track_checks size earlier trak) e in
    let headers = each.1.1.1.1 in
    let media = headers.1.1.1.1.1.1 in
    let tables = media.1.1.1.1.1.1.1.1.1 in
    record {
      boxes = each.0;
      tkhd = headers.0;
      number = headers.1.0;
      mdhd = media.0;
      hdlr = media.1.0;
      entries = tables.0;
      counts = tables.1.0;
      places = tables.1.1.0;
      edits = tables.1.1.1.0;
    }

-- a test that fails is false
pub not_failed : (place : ℕ) (test : Bool) (code : Code) → fault_at place (first_code ((test, code) ∷ [])) ≡ None → test ≡ false
not_failed place true code e = absurd cc
not_failed place false code e = refl

no_code : (place : ℕ) (fault : Option Code) → fault_at place fault ≡ None → fault ≡ None
no_code place None e = refl
no_code place (Some code) e = absurd cc

pub same : (a b : ℕ) → not (a == b) ≡ false → a ≡ b
same a b e = grind arith

-- the tables that say how many samples there are
pub record AreCounted (before : ℕ) (boxes : TrackBoxes) : Type 0 where
  pub durations : fault_of (unfolded_at false boxes.stts) ≡ None
  pub offsets : if_there (λ ctts. fault_of (unfolded_at true ctts)) boxes.ctts ≡ None
  pub sizes : first_code (size_checks (bodies_in boxes).compact boxes.sizes.body) ≡ None
  pub durations_count : has_count (count_in boxes) false boxes.stts ≡ None
  pub offsets_count : if_there (has_count (count_in boxes) true) boxes.ctts ≡ None
  pub few : before + count_in boxes ≤ MOST_ITEMS

pub are_counted : (before : ℕ) (boxes : TrackBoxes) → counts_fault before boxes ≡ None → AreCounted before boxes
unfolding counts_fault
are_counted before boxes e =
    let few = fault_at 0 (first_code ((nat_lt MOST_ITEMS (before + count_in boxes), SampleLimit) ∷ [])) in
    let sizes = fault_at boxes.sizes.place (first_code (size_checks (bodies_in boxes).compact boxes.sizes.body)) in
    let each = all_hold
    (fault_of (unfolded_at false boxes.stts)
    ∷ if_there (λ ctts. fault_of (unfolded_at true ctts)) boxes.ctts
    ∷ sizes
    ∷ has_count (count_in boxes) false boxes.stts
    ∷ if_there (has_count (count_in boxes) true) boxes.ctts
    ∷ few
    ∷ []) e in
    record {
      durations = each.0;
      offsets = each.1.0;
      sizes = no_code boxes.sizes.place _ each.1.1.0;
      durations_count = each.1.1.1.0;
      offsets_count = each.1.1.1.1.0;
      few = ltb-false MOST_ITEMS (before + count_in boxes) (not_failed 0 _ _ each.1.1.1.1.1.0);
    }

length-per_sample : {A : Type 0} (value : ℕ → A) (rows : List (List ℕ)) → length (per_sample value rows) ≡ sample_count rows
length-per_sample value [] = refl
length-per_sample value (row ∷ rows) =
    omega (arith, length-append (replicate (u32_at row 0) (value (u32_at row 4))) (per_sample value rows), length-replicate (u32_at row 0) (value (u32_at row 4)), length-per_sample value rows, sum_by-cons (λ row. u32_at row 0) row rows)

-- a table of times without a fault has an item for each sample
pub unfolded_items : {A : Type 0} (place : ℕ) (fault : Option Code) (value : ℕ → A) (rows : List (List ℕ)) (samples : ℕ)
    → fault_of (placed place (unless fault (sample_count rows))) ≡ None → value_or 0 (placed place (unless fault (sample_count rows))) ≡ samples
    → length (value_or [] (unless fault (per_sample value rows))) ≡ samples
unfolded_items place None value rows samples e n = length-per_sample value rows ∙ n
unfolded_items place (Some code) value rows samples e n = absurd cc

pub durations_len : (before : ℕ) (boxes : TrackBoxes) → AreCounted before boxes → length (value_or [] (stts_of boxes.stts.body)) ≡ count_in boxes
durations_len before boxes h =
    unfolded_items boxes.stts.place (table_fault 0 run_len boxes.stts.body) pos (table_rows run_len boxes.stts.body) (count_in boxes) h.durations (same _ _ (not_failed boxes.stts.place _ _ h.durations_count))

pub places_len : TablesGiveSamples → (before : ℕ) (boxes : TrackBoxes) → AreCounted before boxes → length (samples_by (bodies_in boxes)) ≡ count_in boxes
places_len law before boxes h = law.count (bodies_in boxes) ∙ law.sizes (bodies_in boxes).compact boxes.sizes.body h.sizes

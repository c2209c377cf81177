-- The samples of a track, by the boxes of its sample table, and what is asked of these (ISO/IEC 14496-12, 8.5.1, 8.6 and 8.7).
use Rattle.std.specs.Prelude.{ℕ, ℤ, pos, ◌+◌, Bool, true, false, not, nat_lt, unsigned_abs, List, [], ◌∷◌, length, map, take, drop, replicate, slice_index, slice_index_or, Option, Some, None, ◌==◌, codes, Result}
use Rattle.std.specs.List.{range_with_len}
use Rattle.std.specs.Str.{bytes_eq}
use Rattle.std.specs.Ordering.{int_eq}
use Rattle.mp_ports.specs.declared.code.Code.TheVariants.{CountMismatch, SampleLimit}
use Rattle.mp_ports.specs.declared.fault.Bad.{Bad}
use Rattle.mp_ports.specs.Checks.{fault_at, first_code, first_some, placed}
use Rattle.mp_boxes.specs.Reading.{value_or}
use Rattle.mp_boxes.specs.Boxes.{Box}
use Rattle.mp_columns.specs.declared.columns.TheConstants.{MOST_ITEMS}
use Rattle.mp_times.specs.Times.{stts_of, ctts_of, unfolded, decode_time, composition_time}
use Rattle.mp_times.specs.Sync.{stss_of, stss_fault}
use Rattle.mp_chunks.specs.Sizes.{sample_count, size_checks}
use Rattle.mp_chunks.specs.Places.{SamplePlace, sample_at}
use Rattle.mp_chunks.specs.Samples.{Bodies, chunks_fault_of, outside_fault, samples_by}
use Rattle.mp_timeline.specs.Movie.{SampleRecord}
use Rattle.mp_movie.specs.Readings.{fault_of, if_there}
use Rattle.mp_movie.specs.TrackBoxes.{TrackBoxes}

-- ---- what is read

-- how many samples there are, by the box of their sizes
abbrev pub count_in : TrackBoxes → ℕ
count_in boxes = sample_count boxes.sizes.body

-- the bodies of the boxes that say where the samples are
abbrev pub bodies_in : TrackBoxes → Bodies
bodies_in boxes = record {
  stsc = boxes.stsc.body;
  sizes = boxes.sizes.body;
  compact = bytes_eq boxes.sizes.kind (codes "stz2");
  offsets = boxes.places.body;
  wide = bytes_eq boxes.places.kind (codes "co64");
}

-- the tables, unfolded: an item for each sample
pub record SampleTable : Type 0 where
  pub durations : List ℕ
  pub composition_offsets : List ℤ
  pub sync_marks : List ℤ
  pub places : List SamplePlace

-- the duration of each sample; a column's numbers are whole, and these are natural
abbrev pub durations_of : Box → List ℕ
durations_of stts = map unsigned_abs (value_or [] (stts_of stts.body))

-- without the box each sample is composed when it is decoded
abbrev pub composition_offsets_of : ℕ → Option Box → List ℤ
composition_offsets_of samples None = replicate samples (pos 0)
composition_offsets_of samples (Some ctts) = value_or [] (ctts_of ctts.body)

-- without the box each sample is a sync sample
abbrev pub sync_marks_of : ℕ → Option Box → List ℤ
sync_marks_of samples None = replicate samples (pos 1)
sync_marks_of samples (Some stss) = value_or [] (stss_of samples stss.body)

-- the tables of a track
unfoldable pub table_of : TrackBoxes → SampleTable
table_of boxes = record {
  durations = durations_of boxes.stts;
  composition_offsets = composition_offsets_of (count_in boxes) boxes.ctts;
  sync_marks = sync_marks_of (count_in boxes) boxes.stss;
  places = samples_by (bodies_in boxes);
}

-- the sample of a file before which there are so many; it is a sync sample where its mark is 1
abbrev pub sample_of : List ℕ → SampleTable → ℕ → SampleRecord
sample_of file table before =
    let place = sample_at table.places before in
    record {
      bytes = take place.size (drop place.from file);
      decode = decode_time table.durations before;
      dur = slice_index table.durations before;
      comp = composition_time table.durations table.composition_offsets before;
      sync = int_eq (slice_index_or table.sync_marks before (pos 0)) (pos 1);
      entry = place.kind;
    }

-- the samples, in the order in which they are decoded
unfoldable pub samples_of : List ℕ → SampleTable → List SampleRecord
samples_of file table = map (sample_of file table) (range_with_len 0 (length table.places))

-- ---- what is asked

-- how many samples a table of times has an item for, or its fault
abbrev pub unfolded_at : Bool → Box → Result ℕ Bad
unfolded_at ctts box = placed box.place (unfolded ctts box.body)

-- they are as many as the sizes
abbrev pub has_count : ℕ → Bool → Box → Option Bad
has_count samples ctts box = fault_at box.place (first_code ((not (value_or 0 (unfolded_at ctts box) == samples), CountMismatch) ∷ []))

-- the checks of the tables that say how many samples there are, in order, where so many are in the tracks before
unfoldable pub counts_fault : ℕ → TrackBoxes → Option Bad
counts_fault before boxes =
    first_some
    (fault_of (unfolded_at false boxes.stts)
    ∷ if_there (λ ctts. fault_of (unfolded_at true ctts)) boxes.ctts
    ∷ fault_at boxes.sizes.place (first_code (size_checks (bodies_in boxes).compact boxes.sizes.body))
    ∷ has_count (count_in boxes) false boxes.stts
    ∷ if_there (has_count (count_in boxes) true) boxes.ctts
    ∷ fault_at 0 (first_code ((nat_lt MOST_ITEMS (before + count_in boxes), SampleLimit) ∷ []))
    ∷ [])

-- the checks of the tables that say where the samples are, in order, where there are so many entries and the file has so many bytes
unfoldable pub places_fault : ℕ → ℕ → TrackBoxes → Option Bad
places_fault entries file_size boxes =
    let bodies = bodies_in boxes in
    first_some
    (chunks_fault_of entries boxes.stsc.place boxes.places.place bodies
    ∷ if_there (λ stss. fault_at stss.place (stss_fault (count_in boxes) stss.body)) boxes.stss
    ∷ fault_at boxes.places.place (outside_fault file_size (samples_by bodies))
    ∷ [])

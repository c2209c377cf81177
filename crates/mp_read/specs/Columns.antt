-- The samples of a track, column by column, by the boxes of its sample table (ISO/IEC 14496-12, 8.6.1, 8.6.2 and 8.7.3 to 8.7.5).
use Rattle.std.specs.Prelude.{ℕ, ℤ, List, [], Option}
use Rattle.mp_ports.specs.declared.fault.Bad.{Bad}
use Rattle.mp_ports.specs.Checks.{fault_at}
use Rattle.mp_boxes.specs.Reading.{value_or}
use Rattle.mp_boxes.specs.Boxes.{Box}
use Rattle.mp_times.specs.Times.{stts_of}
use Rattle.mp_times.specs.Sync.{stss_fault}
use Rattle.mp_chunks.specs.Samples.{PlacesRecord, columns_of, samples_by}
use Rattle.mp_movie.specs.Readings.{if_there}
use Rattle.mp_movie.specs.TrackBoxes.{TrackBoxes}
use Rattle.mp_movie.specs.SampleTable.{bodies_in, composition_offsets_of, count_in, sync_marks_of}

-- an item for each sample: its duration, its composition offset, its sync mark, its size, entry and place
pub record ColumnsRecord : Type 0 where
  pub durations : List ℤ
  pub composition_offsets : List ℤ
  pub sync_marks : List ℤ
  pub places : PlacesRecord

-- the columns by the boxes of the sample table
unfoldable pub columns_in : TrackBoxes → ColumnsRecord
columns_in boxes = record {
  durations = value_or [] (stts_of boxes.stts.body);
  composition_offsets = composition_offsets_of (count_in boxes) boxes.ctts;
  sync_marks = sync_marks_of (count_in boxes) boxes.stss;
  places = columns_of (samples_by (bodies_in boxes));
}

-- the check of the sync marks of so many samples
abbrev pub marks_fault : ℕ → Option Box → Option Bad
marks_fault samples stss = if_there (λ stss. fault_at stss.place (stss_fault samples stss.body)) stss

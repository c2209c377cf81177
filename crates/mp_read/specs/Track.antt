-- What is read of a track box: the track with its tables in place of its samples (ISO/IEC 14496-12, 8.3 to 8.7).
use Rattle.std.specs.Prelude.{◌≡◌, ℕ, false, List, Option, Result}
use Rattle.std.specs.List.{list_any, sum_by}
use Rattle.mp_ports.specs.declared.fault.Bad.{Bad}
use Rattle.mp_ports.specs.Checks.{unless}
use Rattle.mp_boxes.specs.Boxes.{Box}
use Rattle.mp_headers.specs.TrackHeader.{tkhd_fields}
use Rattle.mp_headers.specs.MediaHeader.{mdhd_fields}
use Rattle.mp_headers.specs.Handler.{handler_of, name_of}
use Rattle.mp_chunks.specs.Places.{SamplePlace, is_outside}
use Rattle.mp_chunks.specs.Samples.{columns_of}
use Rattle.mp_timeline.specs.declared.segment.Segment.{Segment}
use Rattle.mp_timeline.specs.Movie.{TrackHeadRecord}
use Rattle.mp_movie.specs.Children.{user_data}
use Rattle.mp_movie.specs.Heads.{track_head}
use Rattle.mp_movie.specs.TrackBoxes.{boxes_of}
use Rattle.mp_movie.specs.Entries.{entries_of, local_references}
use Rattle.mp_movie.specs.SampleTable.{count_in}
use Rattle.mp_movie.specs.Edits.{edits_of}
use Rattle.mp_movie.specs.Tracks.{track_fault}
use Rattle.mp_read.specs.Columns.{ColumnsRecord, columns_in}

-- the track, columns in place of its samples
pub record TrackTablesRecord : Type 0 where
  pub number : ℕ
  pub head : TrackHeadRecord
  pub scale : ℕ
  pub entries : List (List ℕ)
  pub columns : ColumnsRecord
  pub edits : Option (List Segment)

-- the track by its track box
unfoldable pub tables_of : Box → TrackTablesRecord
tables_of trak =
    let boxes = boxes_of trak in
    let header = tkhd_fields boxes.tkhd.body in
    let media = mdhd_fields boxes.mdhd.body in
    record {
      number = header.number;
      head = track_head header media (handler_of boxes.hdlr.body) (name_of boxes.hdlr.body) (user_data trak);
      scale = media.timescale;
      entries = entries_of (local_references boxes.dref) boxes.stsd;
      columns = columns_in boxes;
      edits = edits_of boxes.edts;
    }

-- each of its samples ends in a file of so many bytes
pub record LiesInFile (size : ℕ) (track : TrackTablesRecord) : Type 0 where
  pub samples : List SamplePlace
  pub places : track.columns.places ≡ columns_of samples
  pub inside : list_any (is_outside size) samples ≡ false

-- how many samples are in some track boxes
abbrev pub samples_in : List Box → ℕ
samples_in traks = sum_by (λ trak. count_in (boxes_of trak)) traks

-- the same, unless a check of it fails
abbrev pub read_track : ℕ → List Box → Box → Result TrackTablesRecord Bad
read_track file_size earlier trak = unless (track_fault file_size earlier trak) (tables_of trak)

-- The boxes of a sample table, in the movie (ISO/IEC 14496-12, 8.5.1).
use Rattle.std.specs.Prelude.{ℕ, Bool, List, [], ◌∷◌, length, IfSome, Option, None, option_map, codes}
use Rattle.std.specs.Str.{bytes_eq}
use Rattle.mp_ports.specs.declared.fault.Bad.{Bad}
use Rattle.mp_ports.specs.Checks.{first_some}
use Rattle.mp_boxes.specs.Boxes.{Box}
use Rattle.mp_chunks.specs.declared.tables.Tables.{Tables}
use Rattle.mp_movie.specs.Children.{any, no_box, the}
use Rattle.mp_movie.specs.TrackBoxes.{TrackBoxes, either}
use Rattle.mp_movie.specs.Entries.{entries_fault, entries_of}
use Rattle.mp_movie.specs.SampleTable.{counts_fault, places_fault}
use Rattle.mp_movie.specs.Tracks.{tables_fault}
use Rattle.mp_read.specs.declared.moov.Moov.{Moov}
use Rattle.mp_read.specs.declared.table.TableParts.{TableParts}
use Rattle.mp_read.specs.Columns.{ColumnsRecord, columns_in}
use Rattle.mp_read.specs.Part.{IsPart, part_of}

-- the boxes in a sample table, among those of a track
abbrev pub table_boxes : Box → TrackBoxes
table_boxes stbl = record {
  tkhd = no_box;
  edts = None;
  mdia = no_box;
  mdhd = no_box;
  hdlr = no_box;
  minf = no_box;
  dinf = no_box;
  dref = no_box;
  stbl = no_box;
  stsd = the (codes "stsd") stbl;
  stts = the (codes "stts") stbl;
  ctts = any (codes "ctts") stbl;
  stss = any (codes "stss") stbl;
  stsc = the (codes "stsc") stbl;
  sizes = either (codes "stsz") (codes "stz2") stbl;
  places = either (codes "stco") (codes "co64") stbl;
}

-- those that were found
abbrev pub boxes_at : Moov → TableParts → TrackBoxes
boxes_at moov parts = record {
  tkhd = no_box;
  edts = None;
  mdia = no_box;
  mdhd = no_box;
  hdlr = no_box;
  minf = no_box;
  dinf = no_box;
  dref = no_box;
  stbl = no_box;
  stsd = part_of moov parts.stsd;
  stts = part_of moov parts.stts;
  ctts = option_map (part_of moov) parts.ctts;
  stss = option_map (part_of moov) parts.stss;
  stsc = part_of moov parts.stsc;
  sizes = part_of moov parts.sizes;
  places = part_of moov parts.places;
}

-- each lies in the movie
pub record AreParts (moov : Moov) (parts : TableParts) : Type 0 where
  pub stsd : IsPart moov parts.stsd
  pub stts : IsPart moov parts.stts
  pub ctts : IfSome parts.ctts (IsPart moov)
  pub stss : IfSome parts.stss (IsPart moov)
  pub stsc : IsPart moov parts.stsc
  pub sizes : IsPart moov parts.sizes
  pub places : IsPart moov parts.places

-- those that say how long the samples are and where they lie
abbrev pub tables_at : Moov → TableParts → Tables
tables_at moov parts = record {
  moov = moov.bytes;
  stsc = parts.stsc.span;
  sizes = parts.sizes.span;
  compact = bytes_eq parts.sizes.kind (codes "stz2");
  offsets = parts.places.span;
  wide = bytes_eq parts.places.kind (codes "co64");
}

-- the checks of a sample table, in order, where these data references are in the file, so many samples are in the tracks before, and the
-- file has so many bytes
abbrev pub sample_table_checks : ℕ → ℕ → List Bool → Box → List (Option Bad)
sample_table_checks file_size before local stbl =
    let boxes = table_boxes stbl in
    tables_fault stbl
    ∷ entries_fault local boxes.stsd
    ∷ counts_fault before boxes
    ∷ places_fault (length (entries_of local boxes.stsd)) file_size boxes
    ∷ []

-- the first of them that fails
unfoldable pub sample_table_fault : ℕ → ℕ → List Bool → Box → Option Bad
sample_table_fault file_size before local stbl = first_some (sample_table_checks file_size before local stbl)

-- the sample entries and the samples
unfoldable pub sample_table_in : List Bool → Box → List (List ℕ) × ColumnsRecord
sample_table_in local stbl = let boxes = table_boxes stbl in (entries_of local boxes.stsd, columns_in boxes)

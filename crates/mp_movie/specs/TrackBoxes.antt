-- The boxes of a track that are read (ISO/IEC 14496-12, 8.3 to 8.7).
use Rattle.std.specs.Prelude.{ℕ, List, Option, codes}
use Rattle.mp_boxes.specs.Reading.{value_or}
use Rattle.mp_boxes.specs.Boxes.{Box}
use Rattle.mp_movie.specs.Children.{the, any, one_of_two, no_box}

-- each by its type; `sizes` is `stsz` or `stz2`, and `places` is `stco` or `co64`
pub record TrackBoxes : Type 0 where
  pub tkhd : Box
  pub edts : Option Box
  pub mdia : Box
  pub mdhd : Box
  pub hdlr : Box
  pub minf : Box
  pub dinf : Box
  pub dref : Box
  pub stbl : Box
  pub stsd : Box
  pub stts : Box
  pub ctts : Option Box
  pub stss : Option Box
  pub stsc : Box
  pub sizes : Box
  pub places : Box

-- the one of two types
abbrev pub either : List ℕ → List ℕ → Box → Box
either kind other box = value_or no_box (one_of_two kind other box)

-- the boxes in a track box, each where it is there
unfoldable pub boxes_of : Box → TrackBoxes
boxes_of trak =
    let mdia = the (codes "mdia") trak in
    let minf = the (codes "minf") mdia in
    let dinf = the (codes "dinf") minf in
    let stbl = the (codes "stbl") minf in
    record {
      tkhd = the (codes "tkhd") trak;
      edts = any (codes "edts") trak;
      mdia = mdia;
      mdhd = the (codes "mdhd") mdia;
      hdlr = the (codes "hdlr") mdia;
      minf = minf;
      dinf = dinf;
      dref = the (codes "dref") dinf;
      stbl = stbl;
      stsd = the (codes "stsd") stbl;
      stts = the (codes "stts") stbl;
      ctts = any (codes "ctts") stbl;
      stss = any (codes "stss") stbl;
      stsc = the (codes "stsc") stbl;
      sizes = either (codes "stsz") (codes "stz2") stbl;
      places = either (codes "stco") (codes "co64") stbl;
    }

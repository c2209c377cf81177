-- A track by its track box, and the checks of it, in order (ISO/IEC 14496-12, 8.3 to 8.7).
use Rattle.std.specs.Prelude.{ℕ, List, [], ◌∷◌, ◌++◌, length, Option, None, ◌==◌, codes}
use Rattle.std.specs.List.{list_any, sum_by}
use Rattle.mp_ports.specs.declared.code.Code.TheVariants.{TrackId}
use Rattle.mp_ports.specs.declared.fault.Bad.{Bad}
use Rattle.mp_ports.specs.Checks.{fault_at, first_code, first_some}
use Rattle.mp_boxes.specs.Boxes.{Box}
use Rattle.mp_headers.specs.TrackHeader.{tkhd_of, tkhd_fields}
use Rattle.mp_headers.specs.MediaHeader.{mdhd_of, mdhd_fields}
use Rattle.mp_headers.specs.Handler.{hdlr_of, handler_of, name_of}
use Rattle.mp_timeline.specs.Movie.{TrackRecord}
use Rattle.mp_movie.specs.Readings.{fault_of}
use Rattle.mp_movie.specs.Children.{has_at_most_one, has_boxes, has_one, has_one_of_two, user_data}
use Rattle.mp_movie.specs.Heads.{track_head}
use Rattle.mp_movie.specs.TrackBoxes.{TrackBoxes, boxes_of}
use Rattle.mp_movie.specs.Entries.{entries_fault, entries_of, local_references, references_fault}
use Rattle.mp_movie.specs.SampleTable.{count_in, counts_fault, places_fault, samples_of, table_of}
use Rattle.mp_movie.specs.Edits.{edits_fault, edits_of}

-- the number of a track
abbrev pub number_in : TrackBoxes → ℕ
number_in boxes = (tkhd_fields boxes.tkhd.body).number

-- the track of a file
unfoldable pub track_of : List ℕ → Box → TrackRecord
track_of file trak =
    let boxes = boxes_of trak in
    let header = tkhd_fields boxes.tkhd.body in
    let media = mdhd_fields boxes.mdhd.body in
    record {
      number = header.number;
      head = track_head header media (handler_of boxes.hdlr.body) (name_of boxes.hdlr.body) (user_data trak);
      scale = media.timescale;
      entries = entries_of (local_references boxes.dref) boxes.stsd;
      samples = samples_of file (table_of boxes);
      edits = edits_of boxes.edts;
    }

-- its number isn't 0, nor that of one of the tracks before it
abbrev pub has_own_number : List Box → TrackBoxes → Option Bad
has_own_number earlier boxes =
    fault_at boxes.tkhd.place
    (first_code
    ((number_in boxes == 0, TrackId)
    ∷ (list_any (λ other. number_in (boxes_of other) == number_in boxes) earlier, TrackId)
    ∷ []))

-- the boxes of a sample table
unfoldable pub tables_fault : Box → Option Bad
tables_fault stbl =
    first_some
    (has_boxes stbl
    ∷ has_one (codes "stsd") stbl
    ∷ has_one (codes "stts") stbl
    ∷ has_one (codes "stsc") stbl
    ∷ has_one_of_two (codes "stsz") (codes "stz2") stbl
    ∷ has_one_of_two (codes "stco") (codes "co64") stbl
    ∷ has_at_most_one (codes "ctts") stbl
    ∷ has_at_most_one (codes "stss") stbl
    ∷ [])

-- the checks of a track box, in order, where these track boxes stand before it and the file has so many bytes
abbrev pub track_checks : ℕ → List Box → Box → List (Option Bad)
track_checks file_size earlier trak =
    let boxes = boxes_of trak in
    let local = local_references boxes.dref in
    has_boxes trak
    ∷ has_one (codes "tkhd") trak
    ∷ has_one (codes "mdia") trak
    ∷ has_at_most_one (codes "edts") trak
    ∷ fault_of (tkhd_of boxes.tkhd.place boxes.tkhd.body)
    ∷ has_own_number earlier boxes
    ∷ has_boxes boxes.mdia
    ∷ has_one (codes "mdhd") boxes.mdia
    ∷ has_one (codes "hdlr") boxes.mdia
    ∷ has_one (codes "minf") boxes.mdia
    ∷ fault_of (mdhd_of boxes.mdhd.place boxes.mdhd.body)
    ∷ fault_of (hdlr_of boxes.hdlr.place boxes.hdlr.body)
    ∷ has_boxes boxes.minf
    ∷ has_one (codes "dinf") boxes.minf
    ∷ has_one (codes "stbl") boxes.minf
    ∷ has_boxes boxes.dinf
    ∷ has_one (codes "dref") boxes.dinf
    ∷ references_fault boxes.dref
    ∷ tables_fault boxes.stbl
    ∷ entries_fault local boxes.stsd
    ∷ counts_fault (sum_by (λ other. count_in (boxes_of other)) earlier) boxes
    ∷ places_fault (length (entries_of local boxes.stsd)) file_size boxes
    ∷ edits_fault boxes.edts
    ∷ []

-- the first of them that fails
unfoldable pub track_fault : ℕ → List Box → Box → Option Bad
track_fault file_size earlier trak = first_some (track_checks file_size earlier trak)

-- all checks of the first track box, then all of the second, and so on
unfoldable pub tracks_fault : ℕ → List Box → List Box → Option Bad
tracks_fault file_size earlier [] = None
tracks_fault file_size earlier (trak ∷ traks) =
    first_some (track_fault file_size earlier trak ∷ tracks_fault file_size (earlier ++ trak ∷ []) traks ∷ [])

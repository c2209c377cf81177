-- What a track box says of its track in front of its samples, and the checks of it, in order (ISO/IEC 14496-12, 8.3 and 8.4).
use Rattle.std.specs.Prelude.{ℕ, Bool, List, [], ◌∷◌, Option, ◌==◌, codes}
use Rattle.std.specs.List.{list_any}
use Rattle.mp_ports.specs.declared.code.Code.{Code}
use Rattle.mp_ports.specs.declared.code.Code.TheVariants.{TrackId}
use Rattle.mp_ports.specs.declared.fault.Bad.{Bad}
use Rattle.mp_ports.specs.Checks.{fault_at, first_code, first_some}
use Rattle.mp_boxes.specs.Boxes.{Box}
use Rattle.mp_headers.specs.declared.track_header.Tkhd.{Tkhd}
use Rattle.mp_headers.specs.declared.media_header.Mdhd.{Mdhd}
use Rattle.mp_headers.specs.TrackHeader.{tkhd_fields, tkhd_of}
use Rattle.mp_headers.specs.MediaHeader.{mdhd_fields, mdhd_of}
use Rattle.mp_headers.specs.Handler.{handler_of, hdlr_of}
use Rattle.mp_movie.specs.Readings.{fault_of}
use Rattle.mp_movie.specs.Children.{any, has_at_most_one, has_boxes, has_one, the}
use Rattle.mp_movie.specs.TrackBoxes.{boxes_of}
use Rattle.mp_movie.specs.Entries.{local_references, references_fault}
use Rattle.mp_movie.specs.Tracks.{number_in}

-- a number is 0, or that of a track before it
abbrev pub number_fault : List Box → ℕ → Option Code
number_fault earlier number = first_code ((number == 0, TrackId) ∷ (list_any (λ other. number_in (boxes_of other) == number) earlier, TrackId) ∷ [])

-- the checks of a track box up to its number
abbrev pub header_checks : List Box → Box → List (Option Bad)
header_checks earlier trak =
    let tkhd = the (codes "tkhd") trak in
    has_boxes trak
    ∷ has_one (codes "tkhd") trak
    ∷ has_one (codes "mdia") trak
    ∷ has_at_most_one (codes "edts") trak
    ∷ fault_of (tkhd_of tkhd.place tkhd.body)
    ∷ fault_at tkhd.place (number_fault earlier (tkhd_fields tkhd.body).number)
    ∷ []

-- those of a media box up to its handler
abbrev pub media_checks : Box → List (Option Bad)
media_checks mdia =
    let mdhd = the (codes "mdhd") mdia in
    let hdlr = the (codes "hdlr") mdia in
    has_boxes mdia
    ∷ has_one (codes "mdhd") mdia
    ∷ has_one (codes "hdlr") mdia
    ∷ has_one (codes "minf") mdia
    ∷ fault_of (mdhd_of mdhd.place mdhd.body)
    ∷ fault_of (hdlr_of hdlr.place hdlr.body)
    ∷ []

-- those of a media information box up to its data references
abbrev pub information_checks : Box → List (Option Bad)
information_checks minf =
    let dinf = the (codes "dinf") minf in
    has_boxes minf
    ∷ has_one (codes "dinf") minf
    ∷ has_one (codes "stbl") minf
    ∷ has_boxes dinf
    ∷ has_one (codes "dref") dinf
    ∷ references_fault (the (codes "dref") dinf)
    ∷ []

-- the first of them that fails
unfoldable pub header_fault : List Box → Box → Option Bad
header_fault earlier trak = first_some (header_checks earlier trak)

unfoldable pub media_fault : Box → Option Bad
media_fault mdia = first_some (media_checks mdia)

unfoldable pub information_fault : Box → Option Bad
information_fault minf = first_some (information_checks minf)

-- the fields of the track header, the media box, and the edit box
abbrev pub header_in : Box → Tkhd × Box × Option Box
header_in trak = (tkhd_fields (the (codes "tkhd") trak).body, the (codes "mdia") trak, any (codes "edts") trak)

-- the fields of the media header, the handler, its box, and the media information box
abbrev pub media_in : Box → Mdhd × List ℕ × Box × Box
media_in mdia = let hdlr = the (codes "hdlr") mdia in (mdhd_fields (the (codes "mdhd") mdia).body, handler_of hdlr.body, hdlr, the (codes "minf") mdia)

-- for each data reference whether its data is in this file, and the sample table
abbrev pub information_in : Box → List Bool × Box
information_in minf = (local_references (the (codes "dref") (the (codes "dinf") minf)), the (codes "stbl") minf)

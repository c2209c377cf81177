-- A track box is read as its track, and no check of it fails.
use Rattle.std.proofs.Common.{◌≡◌, ℕ, ◌^◌, ◌<◌, Bool, true, false, cond, List, [], ◌∷◌, ◌++◌, length, Option, Some, None, Result, Ok, refl, ap, ◌∙◌, arith}
use Rattle.std.specs.Prelude.{codes, filter, IfSome}
use Rattle.std.specs.Str.{bytes_eq}
use Rattle.std.specs.List.{list_all}
use Rattle.mp_ports.specs.declared.code.Code.{Code}
use Rattle.mp_ports.specs.declared.fault.Bad.{Bad}
use Rattle.mp_ports.specs.Checks.{placed, unless}
use Rattle.mp_boxes.specs.Boxes.{Box}
use Rattle.std.proofs.lemmas.List.{length-append}
use Rattle.mp_boxes.specs.Field.{Part, box_bytes, boxes_bytes, optional}
use Rattle.mp_headers.specs.TrackHeader.{tkhd}
use Rattle.mp_headers.specs.MediaHeader.{mdhd}
use Rattle.mp_headers.specs.Handler.{hdlr}
use Rattle.mp_headers.specs.MediaInformation.{media_header, vmhd, smhd, sthd, nmhd}
use Rattle.mp_entries.specs.Reference.{dref}
use Rattle.mp_timeline.specs.declared.segment.Segment.{Segment}
use Rattle.mp_timeline.specs.Movie.{TrackRecord}
use Rattle.mp_edits.specs.Segments.{IsEditList}
use Rattle.mp_edits.specs.Table.{elst_of}
use Rattle.mp_edits.specs.Written.{elst}
use Rattle.mp_boxes.specs.Reading.{value_or}
use Rattle.mp_movie.specs.Children.{has_boxes, one, at_most_one, the, user_data}
use Rattle.mp_movie.specs.Heads.{media_fields, track_fields}
use Rattle.mp_movie.specs.Edits.{edits_fault, edits_of}
use Rattle.mp_movie.specs.WellFormed.{IsWellFormedTrack}
use Rattle.mp_layout.proofs.Laws.{BoxLaws}
use Rattle.mp_edits.specs.EditBox.{EditsAreRead, edts, track_edits}
use Rattle.mp_layout.specs.Moov.{dinf, mdia, minf, trak}
use Rattle.mp_layout.specs.Tables.{Placing, stbl}
use Rattle.mp_layout.proofs.Laws.{trak_parts}
use Rattle.mp_layout.proofs.BoxesAreFound.{HasParts, IsFound, MayBeFound, Absent, Present, boxes-whole, found-body, is_plain, may-found, one-found, parts-alone}
use Rattle.mp_layout.proofs.TablesAreFound.{AreTables, tables-found}
use Rattle.mp_layout.proofs.UserDataIsKept.{boxes-append, has-user-data, length-boxes, udta_part}
use Rattle.mp_layout.proofs.TablesAreRead.{IsOptional}

-- ---- readings of fields

-- what is read of a box has no fault, and these fields
pub fields : {V : Type 0} (place : ℕ) (fault : Option Code) (value got : V) → placed place (unless fault value) ≡ Ok got → value ≡ got
fields place None value got e = same value got e
  where
    same : {V : Type 0} (x y : V) → (let one : Result V Bad = Ok x in let other : Result V Bad = Ok y in one ≡ other) → x ≡ y
    same x y e = cc
fields place (Some code) value got e = absurd cc

pub may-value : {part : Option Part} (found : Result (Option Box) Bad) → MayBeFound found part → IsOptional (value_or None found) part
may-value found (Absent e) = rw e tt
may-value found (Present part box e same) = rw e (ap (λ (p : Part). p.body) same)

-- ---- the media information box

-- a media information header is neither of the boxes that are picked
record IsOther (part : Part) : Type 0 where
  pub plain : is_plain part ≡ true
  pub not_dinf : bytes_eq part.kind (codes "dinf") ≡ false
  pub not_stbl : bytes_eq part.kind (codes "stbl") ≡ false
  pub four : length part.kind ≡ 4

header-other : (handler : List ℕ) → IsOther (media_header handler)
header-other handler = by (bytes_eq handler (codes "vide")) (bytes_eq handler (codes "soun")) (bytes_eq handler (codes "subt"))
  where
    by : (a b c : Bool) → IsOther (cond a vmhd (cond b smhd (cond c sthd nmhd)))
    by true b c = record { plain = refl; not_dinf = refl; not_stbl = refl; four = refl }
    by false true c = record { plain = refl; not_dinf = refl; not_stbl = refl; four = refl }
    by false false true = record { plain = refl; not_dinf = refl; not_stbl = refl; four = refl }
    by false false false = record { plain = refl; not_dinf = refl; not_stbl = refl; four = refl }

-- the boxes of the media information box and those in them
pub record IsInformation (box : Box) (track : TrackRecord) (placing : Placing) : Type 0 where
  pub whole : has_boxes box ≡ None
  pub dinf_found : IsFound (one (codes "dinf") box) dinf
  pub stbl_found : IsFound (one (codes "stbl") box) (stbl track placing)
  pub dinf_whole : has_boxes (the (codes "dinf") box) ≡ None
  pub dref_found : IsFound (one (codes "dref") (the (codes "dinf") box)) dref
  pub tables : AreTables (the (codes "stbl") box) track placing

abbrev minf_with : Part → List ℕ → List Part
minf_with head table = head ∷ dinf ∷ (let part : Part = record { kind = codes "stbl"; body = table } in part) ∷ []

information-parts : BoxLaws → (box : Box) (track : TrackRecord) (placing : Placing) → box.body ≡ (minf track placing).body → length (minf track placing).body < 2 ^ 32 → HasParts box (minf_with (media_header track.head.handler) (stbl track placing).body)
information-parts read box track placing body short =
    let other = header-other track.head.handler in
    parts-alone read box (minf_with (media_header track.head.handler) (stbl track placing).body) body (rw other.plain refl) short

dinf-parts : BoxLaws → (box : Box) → box.body ≡ dinf.body → HasParts box (dref ∷ [])
unfolding boxes_bytes box_bytes
dinf-parts read box body = parts-alone read box (dref ∷ []) body refl (omega arith)

information-at : BoxLaws → (box : Box) (track : TrackRecord) (placing : Placing) → box.body ≡ (minf track placing).body → length (minf track placing).body < 2 ^ 32 → IsInformation box track placing
information-at read box track placing body short =
    let head = media_header track.head.handler in
    let other = header-other track.head.handler in
    let parts = information-parts read box track placing body short in
    let found = one-found box (codes "dinf") dinf parts (rw other.not_dinf refl) in
    let table = one-found box (codes "stbl") (stbl track placing) parts (rw other.not_stbl refl) in
    let inner = dinf-parts read (the (codes "dinf") box) (found-body _ found) in
    let table_short : length (stbl track placing).body < 2 ^ 32 = omega (arith, short, length-boxes read.lengths head (dinf ∷ stbl track placing ∷ []) other.four, length-boxes read.lengths dinf (stbl track placing ∷ []) refl, length-boxes read.lengths (stbl track placing) [] refl) in
    record {
      whole = boxes-whole box parts;
      dinf_found = found;
      stbl_found = table;
      dinf_whole = boxes-whole _ inner;
      dref_found = one-found _ (codes "dref") dref inner refl;
      tables = tables-found read (the (codes "stbl") box) track placing (found-body _ table) table_short;
    }

-- ---- the media box

pub record IsMedia (box : Box) (track : TrackRecord) (placing : Placing) : Type 0 where
  pub whole : has_boxes box ≡ None
  pub mdhd_found : IsFound (one (codes "mdhd") box) (mdhd (media_fields track))
  pub hdlr_found : IsFound (one (codes "hdlr") box) (hdlr track.head.handler track.head.name)
  pub minf_found : IsFound (one (codes "minf") box) (minf track placing)
  pub information : IsInformation (the (codes "minf") box) track placing

media-at : BoxLaws → (box : Box) (track : TrackRecord) (placing : Placing) → box.body ≡ (mdia track placing).body → length (mdia track placing).body < 2 ^ 32 → IsMedia box track placing
media-at read box track placing body short =
    let head = mdhd (media_fields track) in
    let handler = hdlr track.head.handler track.head.name in
    let parts = parts-alone read box (head ∷ handler ∷ minf track placing ∷ []) body refl short in
    let found = one-found box (codes "minf") (minf track placing) parts refl in
    let inner_short : length (minf track placing).body < 2 ^ 32 = omega (arith, short, length-boxes read.lengths head (handler ∷ minf track placing ∷ []) refl, length-boxes read.lengths handler (minf track placing ∷ []) refl, length-boxes read.lengths (minf track placing) [] refl) in
    record {
      whole = boxes-whole box parts;
      mdhd_found = one-found box (codes "mdhd") head parts refl;
      hdlr_found = one-found box (codes "hdlr") handler parts refl;
      minf_found = found;
      information = information-at read (the (codes "minf") box) track placing (found-body _ found) inner_short;
    }

-- ---- the track box

abbrev named : List ℕ → List ℕ → Part
named kind body = record { kind = kind; body = body }

-- the boxes of a track box by the placing of those that are picked
abbrev track_front : List ℕ → Option (List Segment) → List ℕ → List Part
track_front header edits media = named (codes "tkhd") header ∷ optional (edts edits) ++ named (codes "mdia") media ∷ []

abbrev track_with : List ℕ → Option (List Segment) → List ℕ → Option (List ℕ) → List Part
track_with header edits media tail = track_front header edits media ++ optional (udta_part tail)

record ArePicked (header : List ℕ) (edits : Option (List Segment)) (media : List ℕ) (tail : Option (List ℕ)) : Type 0 where
  pub plain : list_all is_plain (track_front header edits media) ≡ true
  pub no_udta : filter (λ part. bytes_eq part.kind (codes "udta")) (track_front header edits media) ≡ []
  pub picked_tkhd : filter (λ part. bytes_eq part.kind (codes "tkhd")) (track_with header edits media tail) ≡ named (codes "tkhd") header ∷ []
  pub picked_mdia : filter (λ part. bytes_eq part.kind (codes "mdia")) (track_with header edits media tail) ≡ named (codes "mdia") media ∷ []
  pub picked_edts : filter (λ part. bytes_eq part.kind (codes "edts")) (track_with header edits media tail) ≡ optional (edts edits)

all_picked : (header : List ℕ) (edits : Option (List Segment)) (media : List ℕ) (tail : Option (List ℕ)) → ArePicked header edits media tail
all_picked header None media None = record { plain = refl; no_udta = refl; picked_tkhd = refl; picked_mdia = refl; picked_edts = refl }
all_picked header None media (Some body) = record { plain = refl; no_udta = refl; picked_tkhd = refl; picked_mdia = refl; picked_edts = refl }
all_picked header (Some edits) media None = record { plain = refl; no_udta = refl; picked_tkhd = refl; picked_mdia = refl; picked_edts = refl }
all_picked header (Some edits) media (Some body) = record { plain = refl; no_udta = refl; picked_tkhd = refl; picked_mdia = refl; picked_edts = refl }

-- what is found in a track box
pub record IsTrackBox (box : Box) (movie_scale : ℕ) (track : TrackRecord) (placing : Placing) : Type 0 where
  pub whole : has_boxes box ≡ None
  pub tkhd_found : IsFound (one (codes "tkhd") box) (tkhd (track_fields movie_scale track))
  pub mdia_found : IsFound (one (codes "mdia") box) (mdia track placing)
  pub edts_found : MayBeFound (at_most_one (codes "edts") box) (edts track.edits)
  pub udta : user_data box ≡ track.head.udta
  pub media : IsMedia (the (codes "mdia") box) track placing

pub track-at : BoxLaws → (box : Box) (movie_scale : ℕ) (track : TrackRecord) (placing : Placing) → box.body ≡ (trak movie_scale track placing).body → length (trak movie_scale track placing).body < 2 ^ 32
    → IsWellFormedTrack movie_scale track → IsTrackBox box movie_scale track placing
track-at read box movie_scale track placing body short formed =
    let header : Part = tkhd (track_fields movie_scale track) in
    let media : Part = mdia track placing in
    let parts : List Part = trak_parts movie_scale track placing in
    let all = length-append (boxes_bytes parts) track.head.udta in
    let short_parts : length (boxes_bytes parts) < 2 ^ 32 = omega (arith, short, all) in
    let media_short : length media.body < 2 ^ 32 =
    omega (arith, short_parts, length-boxes read.lengths header (optional (edts track.edits) ++ media ∷ []) refl, boxes-append read.lengths (optional (edts track.edits)) (media ∷ []), length-boxes read.lengths media [] refl) in
    let front = all_picked header.body track.edits media.body None in
    let data_ = has-user-data read box parts track.head.udta body front.plain front.no_udta short_parts formed.udta in
    let picked = all_picked header.body track.edits media.body data_.tail in
    let found = one-found box (codes "mdia") media data_.parts_are picked.picked_mdia in
    record {
      whole = boxes-whole box data_.parts_are;
      tkhd_found = one-found box (codes "tkhd") header data_.parts_are picked.picked_tkhd;
      mdia_found = found;
      edts_found = may-found box (codes "edts") (edts track.edits) data_.parts_are picked.picked_edts;
      udta = data_.is;
      media = media-at read (the (codes "mdia") box) track placing (found-body _ found) media_short;
    }

-- ---- the edits

-- what is read of an edit box, where there is one
pub record AreEdits (box : Option Box) (edits : Option (List Segment)) : Type 0 where
  pub sound : edits_fault box ≡ None
  pub read : edits_of box ≡ edits

edits-ok : (box elst : Box) (edits : List Segment) → has_boxes box ≡ None → at_most_one (codes "elst") box ≡ Ok (Some elst) → elst_of elst.place elst.body ≡ Ok (Some edits) → track_edits (Some box.body) ≡ Some edits → AreEdits (Some box) (Some edits)
unfolding edits_fault edits_of
edits-ok box elst edits e1 e2 e3 e4 = record { sound = rw (e1, e2, e3) refl; read = e4 }

no-edits : AreEdits None None
unfolding edits_fault edits_of
no-edits = record { sound = refl; read = refl }

pub edits-at : BoxLaws → EditsAreRead → (box : Option Box) (edits : Option (List Segment)) → IsOptional box (edts edits) → IfSome edits IsEditList → length (boxes_bytes (optional (edts edits))) < 2 ^ 32 → AreEdits box edits
edits-at read law None None h are short = no-edits
edits-at read law None (Some edits) h are short = absurd h
edits-at read law (Some box) None h are short = absurd h
edits-at read law (Some box) (Some edits) h are short =
    let outer : Part = record { kind = codes "edts"; body = boxes_bytes (elst edits ∷ []) } in
    let parts = parts-alone read box (elst edits ∷ []) h refl (omega (arith, short, length-boxes read.lengths outer [] refl)) in
    let found = one-of parts in
    edits-ok box found.0 edits (boxes-whole box parts) found.1 (ap (elst_of found.0.place) found.2 ∙ law.list.back (Some edits) found.0.place are) (ap (λ (body : List ℕ). track_edits (Some body)) h ∙ law.box (Some edits) are)
  where
    one-of : HasParts box (elst edits ∷ []) → (found : Box) × (at_most_one (codes "elst") box ≡ Ok (Some found)) × (found.body ≡ (elst edits).body)
    one-of parts = some-of (may-found box (codes "elst") (Some (elst edits)) parts refl)
      where
        some-of : MayBeFound (at_most_one (codes "elst") box) (Some (elst edits)) → (found : Box) × (at_most_one (codes "elst") box ≡ Ok (Some found)) × (found.body ≡ (elst edits).body)
        some-of (Present part found e same) = (found, e, ap (λ (p : Part). p.body) same)

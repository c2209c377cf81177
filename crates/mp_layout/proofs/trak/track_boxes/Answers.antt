use Rattle.std.proofs.Common.{ℕ, ◌+◌, ◌<◌, ◌^◌, length, List, [], ◌∷◌, ◌++◌, codes, refl, sym, ap, subst, ◌∙◌, Option}
use Rattle.mp_boxes.specs.Field.{optional}
use Rattle.mp_boxes.specs.Table.{HasLen, box_len, boxes_len, capped}
use Rattle.mp_headers.specs.declared.track_header.Tkhd.{Tkhd}
use Rattle.mp_headers.specs.declared.media_header.Mdhd.{Mdhd}
use Rattle.mp_headers.specs.Handler.{hdlr}
use Rattle.mp_headers.specs.TrackHeader.{tkhd}
use Rattle.mp_headers.specs.MediaHeader.{mdhd}
use Rattle.mp_headers.specs.MediaInformation.{media_header}
use Rattle.mp_edits.specs.EditBox.{edts}
use Rattle.mp_timeline.specs.declared.segment.Segment.{Segment}
use Rattle.mp_timeline.specs.Movie.{TrackHeadRecord}
use Rattle.mp_movie.specs.Heads.{media_fields, track_fields}
use Rattle.mp_movie.specs.Placed.{PlacedTrack}
use Rattle.mp_movie.specs.StandsFor.{track_for}
use Rattle.mp_layout.specs.Tables.{stbl}
use Rattle.mp_layout.specs.Moov.{dinf, mdia, minf, trak}
use Rattle.mp_layout.specs.Written.{BoxHasLen}
use Rattle.mp_layout.proofs.Containers.{three-lens, track-lens, user-data-len}
use Rattle.mp_layout.proofs.trak.track_boxes.Goals as goal

pub tkhd_len-requires : goal.tkhd_len-requires
tkhd_len-requires c = subst (λ (t : Tkhd). t.flags < 2 ^ 24) (sym (c.track_header-header.ensures [])) c.requires.track.flags

pub returns-clause-boxes : goal.returns-clause-boxes
returns-clause-boxes c =
    let track = c.args.track.now in
    let head = c.head.view_is ∙ ap (λ (t : PlacedTrack). t.head) c.track.view_is in
    let name = c.deref.ensures.value ∙ ap (λ (h : TrackHeadRecord). h.name) head in
    let media_type = c.media_header_len.ensures ∙ ap (λ (h : TrackHeadRecord). capped (box_len (media_header h.handler))) head in
    let handler : HasLen c.hdlr_len.result (hdlr track.head.handler track.head.name) =
    c.hdlr_len.ensures ∙ (ap (λ (h : TrackHeadRecord). capped (box_len (hdlr h.handler c.deref.result.now))) head ∙ ap (λ (n : List ℕ). capped (box_len (hdlr track.head.handler n))) name) in
    let edits = c.edts_len-edits.ensures ∙ ap (λ (e : Option (List Segment)). capped (boxes_len (optional (edts e)))) (c.as_deref.ensures.value ∙ ap (λ (t : PlacedTrack). t.edits) c.track.view_is) in
    let udta = c.deref-udta.ensures.value ∙ ap (λ (h : TrackHeadRecord). h.udta) head in
    let minf_has : BoxHasLen c.box_len-minf.result minf track c.args.chunks.now c.args.wide =
    λ files placing at.
    let tables = stbl (track_for files track) placing in
    let lens = three-lens (media_header track.head.handler) dinf tables _ _ _ media_type c.dinf_len.ensures (c.stbl_len-stbl.ensures files placing at) in
    c.box_len-minf.ensures.boxes (codes "minf") (media_header track.head.handler ∷ dinf ∷ tables ∷ []) refl (c.sum_len-minf.ensures ∙ lens) in
    let mdia_has : BoxHasLen c.box_len-mdia.result mdia track c.args.chunks.now c.args.wide =
    λ files placing at.
    let header = mdhd (media_fields (track_for files track)) in
    let has = c.mdhd_len.ensures ∙ ap (λ (m : Mdhd). capped (box_len (mdhd m))) (c.media_header-media.ensures files) in
    let information = minf (track_for files track) placing in
    let lens = three-lens header (hdlr track.head.handler track.head.name) information _ _ _ has handler (minf_has files placing at) in
    c.box_len-mdia.ensures.boxes (codes "mdia") (header ∷ hdlr track.head.handler track.head.name ∷ information ∷ []) refl (c.sum_len-mdia.ensures ∙ lens) in
    let trak_has : BoxHasLen c.box_len.result (trak c.args.movie_scale) track c.args.chunks.now c.args.wide =
    λ files placing at.
    let header = tkhd (track_fields c.args.movie_scale (track_for files track)) in
    let has = c.tkhd_len.ensures ∙ ap (λ (t : Tkhd). capped (box_len (tkhd t))) (c.track_header-header.ensures files) in
    let media = mdia (track_for files track) placing in
    let lens = track-lens header (edts track.edits) media _ _ _ _ has edits (mdia_has files placing at) in
    user-data-len c.boxes_have_lengths.ensures (codes "trak") (header ∷ optional (edts track.edits) ++ media ∷ []) track.head.udta _ _ refl (c.sum_len-trak.ensures ∙ (lens ∙ ap (λ (u : ℕ). capped (boxes_len (header ∷ optional (edts track.edits) ++ media ∷ []) + u)) (ap length udta))) c.box_len.ensures.len in
    record {
      header = c.track_header-header.ensures;
      media = c.media_header-media.ensures;
      trak = trak_has;
      mdia = mdia_has;
      minf = minf_has;
      stbl = c.stbl_len-stbl.ensures;
    }

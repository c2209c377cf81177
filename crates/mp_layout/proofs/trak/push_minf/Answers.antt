use Rattle.std.proofs.Common.{[], ◌∷◌, ap, codes, sym, ◌∙◌}
use Rattle.mp_boxes.specs.Field.{container}
use Rattle.mp_headers.specs.MediaInformation.{media_header}
use Rattle.mp_timeline.specs.Movie.{TrackHeadRecord}
use Rattle.mp_movie.specs.Placed.{PlacedTrack}
use Rattle.mp_movie.specs.StandsFor.{track_for}
use Rattle.mp_layout.specs.Tables.{stbl}
use Rattle.mp_layout.specs.Moov.{dinf}
use Rattle.mp_layout.proofs.Containers.{same-box, same-len, somewhere}
use Rattle.mp_layout.proofs.trak.push_minf.Goals as goal

pub returns : goal.returns
returns c = λ files placing at.
    let head = c.head.view_is ∙ ap (λ (t : PlacedTrack). t.head) c.track.view_is in
    let tables = stbl (track_for files c.args.track.now) placing in
    let same = ap (λ (h : TrackHeadRecord). container (codes "minf") (media_header h.handler ∷ dinf ∷ tables ∷ [])) head in
    let len = same-len _ _ _ (sym same) (c.requires.boxes.minf files placing (somewhere at)) in
    same-box _ _ _ _ same
    (λ rest all p.
    c.push_stbl.ensures files placing at rest all
    (c.push_dinf.ensures _ all (c.push_media_header.ensures _ all (c.begin_box.ensures.boxes (media_header c.head.inside.handler ∷ dinf ∷ tables ∷ []) len rest all p))))

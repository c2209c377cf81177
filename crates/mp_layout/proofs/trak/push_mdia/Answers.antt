use Rattle.std.proofs.Common.{◌≡◌, ℕ, List, [], ◌∷◌, codes, sym, ap, ◌∙◌}
use Rattle.mp_boxes.specs.Field.{Part, container}
use Rattle.mp_headers.specs.declared.media_header.Mdhd.{Mdhd}
use Rattle.mp_headers.specs.Handler.{hdlr}
use Rattle.mp_headers.specs.MediaHeader.{mdhd}
use Rattle.mp_timeline.specs.Movie.{TrackHeadRecord}
use Rattle.mp_movie.specs.Placed.{PlacedTrack}
use Rattle.mp_movie.specs.StandsFor.{track_for}
use Rattle.mp_layout.specs.Moov.{minf}
use Rattle.mp_layout.proofs.Containers.{same-box, same-len, somewhere}
use Rattle.mp_layout.proofs.trak.push_mdia.Goals as goal

abbrev boxed : Part → Mdhd → List ℕ → List ℕ → Part
boxed information m handler name = container (codes "mdia") (mdhd m ∷ hdlr handler name ∷ information ∷ [])

mdia-by : (information : Part) (a b : Mdhd) (d e f g : List ℕ) → a ≡ b → d ≡ e → f ≡ g → boxed information a d f ≡ boxed information b e g
mdia-by information a b d e f g p q r = λ i. boxed information (p i) (q i) (r i)

pub returns : goal.returns
returns c = λ files placing at.
    let head = c.head.view_is ∙ ap (λ (t : PlacedTrack). t.head) c.track.view_is in
    let handler = ap (λ (h : TrackHeadRecord). h.handler) head in
    let name = c.deref.ensures.value ∙ ap (λ (h : TrackHeadRecord). h.name) head in
    let information : Part = minf (track_for files c.args.track.now) placing in
    let same = mdia-by information _ _ _ _ _ _ (c.requires.boxes.media files) handler name in
    let len = same-len _ _ _ (sym same) (c.requires.boxes.mdia files placing (somewhere at)) in
    same-box _ _ _ _ same
    (λ rest all p.
    c.push_minf.ensures files placing at rest all
    (c.push_hdlr.ensures _ all (c.push_mdhd.ensures _ all (c.begin_box.ensures.boxes (mdhd c.args.boxes.now.media ∷ hdlr c.head.inside.handler c.deref.result.now ∷ information ∷ []) len rest all p))))

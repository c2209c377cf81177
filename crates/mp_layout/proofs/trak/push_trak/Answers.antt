use Rattle.std.proofs.Common.{◌≡◌, ℕ, ◌<◌, ◌^◌, List, [], ◌∷◌, ◌++◌, codes, sym, ap, subst, ◌∙◌, Option}
use Rattle.mp_boxes.specs.Field.{Part, optional}
use Rattle.mp_boxes.specs.Push.{IsPushing}
use Rattle.mp_headers.specs.declared.track_header.Tkhd.{Tkhd}
use Rattle.mp_headers.specs.TrackHeader.{tkhd}
use Rattle.mp_edits.specs.EditBox.{edts}
use Rattle.mp_timeline.specs.declared.segment.Segment.{Segment}
use Rattle.mp_timeline.specs.Movie.{TrackHeadRecord}
use Rattle.mp_movie.specs.Placed.{PlacedTrack}
use Rattle.mp_movie.specs.StandsFor.{track_for}
use Rattle.mp_layout.specs.Moov.{mdia, with_user_data}
use Rattle.mp_layout.proofs.Containers.{same-box, same-len, somewhere, track-left, user-data-left}
use Rattle.mp_layout.proofs.trak.push_trak.Goals as goal

abbrev boxed : Part → Tkhd → Option (List Segment) → List ℕ → Part
boxed media t edits udta = with_user_data (codes "trak") (tkhd t ∷ optional (edts edits) ++ media ∷ []) udta

trak-by : (media : Part) (a b : Tkhd) (d e : Option (List Segment)) (f g : List ℕ) → a ≡ b → d ≡ e → f ≡ g → boxed media a d f ≡ boxed media b e g
trak-by media a b d e f g p q r = λ i. boxed media (p i) (q i) (r i)

pub push_tkhd-requires : goal.push_tkhd-requires
push_tkhd-requires c = subst (λ (t : Tkhd). t.flags < 2 ^ 24) (sym (c.requires.boxes.header [])) c.requires.track.flags

pub returns : goal.returns
returns c = λ files placing at.
    let head = c.head.view_is ∙ ap (λ (t : PlacedTrack). t.head) c.track.view_is in
    let edits = c.as_deref.ensures.value ∙ ap (λ (t : PlacedTrack). t.edits) c.track.view_is in
    let udta = c.deref.ensures.value ∙ ap (λ (h : TrackHeadRecord). h.udta) head in
    let media : Part = mdia (track_for files c.args.track.now) placing in
    let same = trak-by media _ _ _ _ _ _ (c.requires.boxes.header files) edits udta in
    let len = same-len _ _ _ (sym same) (c.requires.boxes.trak files placing (somewhere at)) in
    same-box _ _ _ _ same
    (λ rest all p.
    let begun = user-data-left _ _ (codes "trak") c.args.boxes.now.trak c.begin_box.ensures.rows (tkhd c.args.boxes.now.header ∷ optional (edts _) ++ media ∷ []) c.deref.result.now len rest all p in
    let left = subst (λ (pieces : List (List ℕ)). IsPushing c.begin_box.new.out pieces all) (track-left (tkhd c.args.boxes.now.header) (edts _) media c.deref.result.now rest) begun in
    c.push_bytes.ensures rest all (c.push_mdia.ensures files placing at _ all (c.push_edts.ensures _ all (c.push_tkhd.ensures _ all left))))

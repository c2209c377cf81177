use Rattle.std.proofs.Common.{arith, refl, length, ap, sym, ◌∙◌}
use Rattle.mp_layout.specs.Chunked.{furthest}
use Rattle.mp_layout.proofs.ColumnSums.{any-track}
use Rattle.mp_layout.proofs.FieldsAreWide.{few-heads}
use Rattle.mp_layout.proofs.TraksInTurn.{reach-is}
use Rattle.mp_layout.proofs.table.reach_of.Goals as goal

pub track_boxes-boxes-requires-clause-few : goal.track_boxes-boxes-requires-clause-few
track_boxes-boxes-requires-clause-few c =
    let few = c.requires.few in
    let heads = ap length c.in_ok-heads.ensures in
    omega (arith, few, heads, few-heads c.args.tracks.now c.args.position c.args.chunks.now c.args.places.now)

pub overflow_cast-result : goal.overflow_cast-result
overflow_cast-result c =
    let few = c.requires.few in
    let heads = ap length c.in_ok-heads.ensures in
    omega (arith, few, heads, few-heads c.args.tracks.now c.args.position c.args.chunks.now c.args.places.now)

pub returns : goal.returns
returns c =
    let track = c.index-tracks-position in
    let heads = c.deref.ensures.value in
    reach-is c.args.scale c.args.tracks.now c.args.chunks.now c.args.places.now c.args.position track.result c.deref.result.now c.track_boxes-boxes.result _
    (λ d. any-track c.args.tracks.now c.args.position d track.result c.requires.inside ∙ sym track.is) (heads ∙ c.in_ok-heads.ensures) c.track_boxes-boxes.ensures.boxes c.track_boxes-boxes.ensures.scale
    refl (c.len.ensures ∙ sym c.deref.ensures.len) (c.furthest.ensures ∙ ap furthest (c.deref-2.ensures.value ∙ sym heads))

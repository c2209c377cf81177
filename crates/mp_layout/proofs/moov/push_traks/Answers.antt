use Rattle.std.proofs.Common.{rules, arith, ◌≡◌, get_or, ◌∙◌}
use Rattle.mp_movie.specs.Placed.{PlacedTrack}
use Rattle.mp_layout.proofs.ColumnSums.{any-track}
use Rattle.mp_layout.proofs.TraksInTurn.{all-pushed, pushed-on, trak-pushed}
use Rattle.mp_layout.proofs.moov.push_traks.Goals as goal

pub loop-position-preserved : goal.loop-position-preserved
loop-position-preserved c = λ files placing placed.
    let track = c.index-tracks-position-in-loop-position.result in
    let lt = c.loop-position-test.true in
    let here : get_or c.args.tracks.now c.loop-position.position track ≡ track = search rules in
    let at : (d : PlacedTrack) → get_or c.args.tracks.now c.loop-position.position d ≡ track = λ d. any-track c.args.tracks.now c.loop-position.position d track lt ∙ here in
    let heads = c.deref-in-loop-position.ensures.value ∙ c.in_ok-heads.ensures in
    pushed-on _ _ _ _ c.args.scale files placing c.loop-position.position c.args.tracks.now track lt (c.loop-position.invariant files placing placed)
    (trak-pushed _ _ c.args.scale c.args.tracks.now c.args.chunks.now c.args.places.now c.args.wide.now c.loop-position.position track _ _ c.track_boxes-boxes.result c.push_trak.ensures c.track_boxes-boxes.ensures.scale at heads (search rules) files placing placed lt)

pub returns : goal.returns
returns c = λ files placing placed.
    all-pushed _ _ _ c.args.scale files placing c.loop-position.position c.args.tracks.now (omega (arith, c.loop-position-test.false)) (c.loop-position.invariant files placing placed)

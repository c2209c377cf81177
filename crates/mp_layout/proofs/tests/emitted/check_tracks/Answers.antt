use Rattle.std.proofs.Common.{rules, arith, ◌≡◌, List, All, get_or, ap, sym, subst, ◌∙◌}
use Rattle.std.proofs.lemmas.List.{take_all}
use Rattle.std.proofs.lemmas.List.Elements.{All-more, recursion_from_All}
use Rattle.mp_pieces.specs.declared.piece.Piece.{Piece}
use Rattle.mp_pieces.specs.Copied.{sizes_of}
use Rattle.mp_pieces.specs.Piece.{IsHeld}
use Rattle.mp_movie.specs.Placed.{PlacedTrack}
use Rattle.mp_movie.specs.StandsFor.{HoldTrack}
use Rattle.mp_layout.proofs.tests.emitted.check_tracks.Goals as goal

pub loop-track-preserved : goal.loop-track-preserved
loop-track-preserved g c =
    let sizes = sizes_of (g.F.Folder.state c.args.folder.now) in
    let d = c.track-item.result in
    let at : get_or c.args.tracks.now c.loop-track.track-index d ≡ d = search rules in
    let pieces = c.deref.ensures.value ∙ ap (λ (t : PlacedTrack). t.pieces) (c.track.view_is ∙ sym at) in
    let held = subst (λ (ps : List Piece). All (IsHeld sizes) ps) pieces c.check_held.ensures in
    All-more (HoldTrack sizes) c.args.tracks.now c.loop-track.track-index d c.loop-track-test.true c.loop-track.invariant (recursion_from_All (IsHeld sizes) _ held)

pub returns : goal.returns
returns g c =
    let sizes = sizes_of (g.F.Folder.state c.args.folder.now) in
    let all = subst (λ (tracks : List PlacedTrack). All (HoldTrack sizes) tracks) (take_all c.loop-track.track-index c.args.tracks.now (omega (arith, c.loop-track-test.false))) c.loop-track.invariant in
    recursion_from_All (HoldTrack sizes) c.args.tracks.now all

use Rattle.std.proofs.Common.{rules, ◌-◌, ◌<◌, ◌≤◌, List, None, All, get_or, subst, arith}
use Rattle.std.proofs.lemmas.List.{take_all}
use Rattle.std.proofs.lemmas.List.Elements.{All-more}
use Rattle.mp_pieces.specs.declared.piece.Piece.{Piece}
use Rattle.mp_pieces.specs.Copied.{sizes_of}
use Rattle.mp_pieces.specs.Piece.{IsHeld}
use Rattle.mp_layout.proofs.TestTracks.{is-held}
use Rattle.mp_layout.proofs.tests.emitted.check_held.Goals as goal

pub loop-piece-preserved : goal.loop-piece-preserved
loop-piece-preserved g c =
    let s = g.F.Folder.state c.args.folder.now in
    let none : Piece = record { file = 0; from = 0; len = 0; prefix = None } in
    let at = c.loop-piece.piece-index in
    let piece = get_or c.args.pieces.now at none in
    let known : piece.file < c.args.files = search rules in
    let short : piece.len ≤ c.size-size.result = search rules in
    let inside : piece.from ≤ c.size-size.result - piece.len = search rules in
    All-more (IsHeld (sizes_of s)) c.args.pieces.now at none c.loop-piece-test.true c.loop-piece.invariant (is-held s piece c.args.files _ c.requires known c.size-size.ensures.size short inside)

pub returns : goal.returns
returns g c =
    let s = g.F.Folder.state c.args.folder.now in
    subst (λ (pieces : List Piece). All (IsHeld (sizes_of s)) pieces) (take_all c.loop-piece.piece-index c.args.pieces.now (omega (arith, c.loop-piece-test.false))) c.loop-piece.invariant

use Rattle.std.proofs.Common.{List, All, ap, sym, subst, ◌∙◌}
use Rattle.std.specs.List.{flat_map}
use Rattle.std.specs.Prelude.{OnOk}
use Rattle.std.proofs.lemmas.List.Elements.{All-from_recursion}
use Rattle.std.proofs.lemmas.Result.{on_ok_weaker}
use Rattle.mp_ports.specs.Folder.{FolderState}
use Rattle.mp_pieces.specs.Copied.{Emits, StopsReading, StopsWriting, sizes_of}
use Rattle.mp_pieces.specs.Piece.{IsHeld}
use Rattle.mp_movie.specs.Placed.{PlacedTrack}
use Rattle.mp_layout.specs.contracts.plan.FilePlan.{the_view}
use Rattle.mp_layout.specs.Plan.{FilePlanRecord}
use Rattle.mp_layout.proofs.Emitting.{emits-file, front-for, in-words, stops-first, stops-reading, stops-writing, whole-for}
use Rattle.mp_layout.proofs.PiecesOfChunks.{of-all}
use Rattle.mp_layout.proofs.output.emit.Goals as goal

pub emit_chunks-requires-clause-held : goal.emit_chunks-requires-clause-held
emit_chunks-requires-clause-held g c =
    let old = g.F.Folder.state c.args.folder.now in
    let all = All-from_recursion (IsHeld (sizes_of old)) _ (of-all (IsHeld (sizes_of old)) c.args.movie.now.tracks c.requires.held) in
    let there = subst (λ (s : FolderState). All (IsHeld (sizes_of s)) (flat_map (λ (t : PlacedTrack). t.pieces) c.args.movie.now.tracks)) (sym c.in-Ok.ensures.appended) all in
    subst (λ (tracks : List PlacedTrack). All (IsHeld (sizes_of (g.F.Folder.state c.append.new.self))) (flat_map (λ (t : PlacedTrack). t.pieces) tracks)) (sym c.tracks.ensures.tracks) there

pub returns-in-Ok-clause-written : goal.returns-in-Ok-clause-written
returns-in-Ok-clause-written g c = λ millis is.
    let movie = c.args.movie.now in
    let file = ap the_view c.file-inside.view_is ∙ c.file.view_is in
    let front = c.deref.ensures.value ∙ ap (λ (p : FilePlanRecord). p.front) file in
    let chunks = c.deref-in-Ok.ensures.value ∙ ap (λ (p : FilePlanRecord). p.plan) file in
    let whole = whole-for c.plans_stand_for_chunks.ensures movie millis c.tracks.ensures.whole.columns c.args.file.now is _ _ front chunks in
    on_ok_weaker c.emit_chunks.result (emits-file c.appends_follow.ensures _ _ _ _ _ _ _ whole c.in-Ok.ensures.appended)
    (in-words (λ pieces made. OnOk c.emit_chunks.result (Emits (g.F.Folder.state c.append.new.self) (g.F.Folder.state c.emit_chunks.new.folder) pieces made)) movie c.tracks.result.now c.deref-in-Ok.result.now c.tracks.ensures.tracks c.emit_chunks.ensures.copied)

pub returns-in-Ok-clause-read : goal.returns-in-Ok-clause-read
returns-in-Ok-clause-read g c = λ millis is stopped.
    let movie = c.args.movie.now in
    let file = ap the_view c.file-inside.view_is ∙ c.file.view_is in
    let front = c.deref.ensures.value ∙ ap (λ (p : FilePlanRecord). p.front) file in
    let chunks = c.deref-in-Ok.ensures.value ∙ ap (λ (p : FilePlanRecord). p.plan) file in
    let whole = whole-for c.plans_stand_for_chunks.ensures movie millis c.tracks.ensures.whole.columns c.args.file.now is _ _ front chunks in
    stops-reading _ _ _ _ _ _ _ whole c.in-Ok.ensures.appended (in-words (StopsReading _ _) movie c.tracks.result.now c.deref-in-Ok.result.now c.tracks.ensures.tracks (c.emit_chunks.ensures.read stopped))

pub returns-in-Ok-clause-write : goal.returns-in-Ok-clause-write
returns-in-Ok-clause-write g c = λ millis is stopped.
    let movie = c.args.movie.now in
    let file = ap the_view c.file-inside.view_is ∙ c.file.view_is in
    let front = c.deref.ensures.value ∙ ap (λ (p : FilePlanRecord). p.front) file in
    let chunks = c.deref-in-Ok.ensures.value ∙ ap (λ (p : FilePlanRecord). p.plan) file in
    let whole = whole-for c.plans_stand_for_chunks.ensures movie millis c.tracks.ensures.whole.columns c.args.file.now is _ _ front chunks in
    stops-writing _ _ _ _ _ _ _ whole c.in-Ok.ensures.appended (in-words (StopsWriting _ _) movie c.tracks.result.now c.deref-in-Ok.result.now c.tracks.ensures.tracks (c.emit_chunks.ensures.write stopped))

pub returns-in-Err-clause-write : goal.returns-in-Err-clause-write
returns-in-Err-clause-write g c = λ millis is stopped.
    let front = c.deref.ensures.value ∙ ap (λ (p : FilePlanRecord). p.front) (ap the_view c.file-inside.view_is ∙ c.file.view_is) in
    let whole = front-for c.args.movie.now millis c.args.file.now is _ front in
    stops-first _ _ _ _ _ _ whole c.in-Err.ensures.failed

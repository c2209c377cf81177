use Rattle.std.proofs.Common.{rules, arith, ◌≡◌, List, All, get_or, ap, sym, subst, ◌∙◌}
use Rattle.mp_pieces.specs.declared.piece.Piece.{Piece}
use Rattle.mp_pieces.specs.Copied.{Emits, StopsReading, StopsWriting, sizes_of}
use Rattle.mp_pieces.specs.Piece.{IsHeld, pieces_bytes}
use Rattle.mp_movie.specs.Placed.{PlacedTrack}
use Rattle.mp_layout.proofs.ColumnSums.{few-of-track}
use Rattle.mp_layout.proofs.Emitting.{same-fault}
use Rattle.mp_layout.proofs.PiecesOfChunks.{pieces-are}
use Rattle.mp_layout.proofs.pieces.emit_chunk.Goals as goal

pub overflow_add-last : goal.overflow_add-last
overflow_add-last g c =
    let d = c.index-tracks-chunk.result in
    let few = c.requires.few_samples in
    omega (arith, few, c.requires.within.samples d, few-of-track c.args.tracks.now c.args.chunk.track d c.requires.within.track)

pub copy_pieces-requires-clause-held : goal.copy_pieces-requires-clause-held
copy_pieces-requires-clause-held g c =
    let d = c.index-tracks-chunk.result in
    let at : get_or c.args.tracks.now c.args.chunk.track d ≡ d = search rules in
    let same = c.track.view_is ∙ sym at in
    let counts = ap (λ (t : PlacedTrack). t.counts) same in
    let pieces = c.deref.ensures.value ∙ ap (λ (t : PlacedTrack). t.pieces) same in
    let is = pieces-are c.args.tracks.now c.args.chunk d _ _ _ _ c.requires.within.track counts pieces c.pieces_before-from.ensures.is c.range_sum.ensures.is in
    subst (λ (ps : List Piece). All (IsHeld (sizes_of (g.F.Folder.state c.args.folder.now))) ps) (sym is) c.requires.held

pub returns-in-Ok-clause-copied : goal.returns-in-Ok-clause-copied
returns-in-Ok-clause-copied g c =
    let d = c.index-tracks-chunk.result in
    let at : get_or c.args.tracks.now c.args.chunk.track d ≡ d = search rules in
    let same = c.track.view_is ∙ sym at in
    let counts = ap (λ (t : PlacedTrack). t.counts) same in
    let pieces = c.deref.ensures.value ∙ ap (λ (t : PlacedTrack). t.pieces) same in
    let is = pieces-are c.args.tracks.now c.args.chunk d _ _ _ _ c.requires.within.track counts pieces c.pieces_before-from.ensures.is c.range_sum.ensures.is in
    subst (λ (ps : List Piece). Emits (g.F.Folder.state c.args.folder.now) (g.F.Folder.state c.copy_pieces.new.folder) ps (λ files. pieces_bytes files ps)) is c.in-Ok.ensures.copied

pub returns-in-Err-clause-read : goal.returns-in-Err-clause-read
returns-in-Err-clause-read g c = λ e.
    let d = c.index-tracks-chunk.result in
    let at : get_or c.args.tracks.now c.args.chunk.track d ≡ d = search rules in
    let same = c.track.view_is ∙ sym at in
    let counts = ap (λ (t : PlacedTrack). t.counts) same in
    let pieces = c.deref.ensures.value ∙ ap (λ (t : PlacedTrack). t.pieces) same in
    let is = pieces-are c.args.tracks.now c.args.chunk d _ _ _ _ c.requires.within.track counts pieces c.pieces_before-from.ensures.is c.range_sum.ensures.is in
    subst (λ (ps : List Piece). StopsReading (g.F.Folder.state c.args.folder.now) (g.F.Folder.state c.copy_pieces.new.folder) ps (λ files. pieces_bytes files ps)) is (c.in-Err.ensures.read (same-fault _ _ e))

pub returns-in-Err-clause-write : goal.returns-in-Err-clause-write
returns-in-Err-clause-write g c = λ e.
    let d = c.index-tracks-chunk.result in
    let at : get_or c.args.tracks.now c.args.chunk.track d ≡ d = search rules in
    let same = c.track.view_is ∙ sym at in
    let counts = ap (λ (t : PlacedTrack). t.counts) same in
    let pieces = c.deref.ensures.value ∙ ap (λ (t : PlacedTrack). t.pieces) same in
    let is = pieces-are c.args.tracks.now c.args.chunk d _ _ _ _ c.requires.within.track counts pieces c.pieces_before-from.ensures.is c.range_sum.ensures.is in
    subst (λ (ps : List Piece). StopsWriting (g.F.Folder.state c.args.folder.now) (g.F.Folder.state c.copy_pieces.new.folder) ps (λ files. pieces_bytes files ps)) is (c.in-Err.ensures.write (same-fault _ _ e))

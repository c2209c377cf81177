use Rattle.std.proofs.Common.{arith, refl, ◌∙◌}
use Rattle.mp_pieces.specs.Copied.{sizes_of}
use Rattle.mp_pieces.specs.Piece.{IsHeld}
use Rattle.mp_interleave.specs.Law.{IsWithin}
use Rattle.mp_layout.proofs.ColumnSums.{at-track}
use Rattle.mp_layout.proofs.Emitting.{chunk-copied, chunk-unread, chunk-unwritten, held-then, no-chunk, nothing-copied, same-fault}
use Rattle.mp_layout.proofs.PiecesOfChunks.{of-chunk, starts-on}
use Rattle.mp_layout.proofs.pieces.emit_chunks.Goals as goal

pub loop-at-init : goal.loop-at-init
loop-at-init g c = record { copied = nothing-copied (g.F.Folder.state c.args.folder.now) c.args.tracks.now; starts = c.no_starts-starts.ensures _ c.requires.few_tracks; room = refl }

pub emit_chunk-requires-clause-held : goal.emit_chunk-requires-clause-held
emit_chunk-requires-clause-held g c =
    let within = at-track (IsWithin c.args.tracks.now) c.args.chunks.now c.loop-at.at no-chunk c.requires.within c.loop-at-test.true in
    of-chunk (IsHeld (sizes_of (g.F.Folder.state c.loop-at.folder))) c.args.tracks.now _ within (held-then _ _ _ _ c.loop-at.invariant.copied c.requires.held)

pub returns-in-Err-clause-read : goal.returns-in-Err-clause-read
returns-in-Err-clause-read g c = λ e.
    let within = at-track (IsWithin c.args.tracks.now) c.args.chunks.now c.loop-at.at no-chunk c.requires.within c.loop-at-test.true in
    chunk-unread _ _ _ c.args.tracks.now c.args.chunks.now c.loop-at.at no-chunk c.loop-at-test.true within c.loop-at.invariant.copied (c.in-Err.ensures.read (same-fault _ _ e))

pub returns-in-Err-clause-write : goal.returns-in-Err-clause-write
returns-in-Err-clause-write g c = λ e.
    let within = at-track (IsWithin c.args.tracks.now) c.args.chunks.now c.loop-at.at no-chunk c.requires.within c.loop-at-test.true in
    chunk-unwritten _ _ _ c.args.tracks.now c.args.chunks.now c.loop-at.at no-chunk c.loop-at-test.true within c.loop-at.invariant.copied (c.in-Err.ensures.write (same-fault _ _ e))

pub loop-at-preserved : goal.loop-at-preserved
loop-at-preserved g c =
    let within = at-track (IsWithin c.args.tracks.now) c.args.chunks.now c.loop-at.at no-chunk c.requires.within c.loop-at-test.true in
    let few = c.requires.few_tracks in
    let inside = within.track in
    record {
      copied = chunk-copied c.appends_follow.ensures _ _ _ c.args.tracks.now c.args.chunks.now c.loop-at.at no-chunk c.loop-at-test.true within c.loop-at.invariant.copied c.in-Ok.ensures.copied;
      starts = starts-on _ _ _ _ c.loop-at.invariant.starts (omega (arith, few, inside)) c.in-Ok.ensures.start;
      room = c.emit_chunk.ensures.room ∙ c.loop-at.invariant.room;
    }

use Rattle.std.proofs.Common.{◌≡◌, length, take}
use Rattle.std.specs.List.{flat_map}
use Rattle.mp_pieces.specs.Copied.{Emits}
use Rattle.mp_pieces.specs.Piece.{pieces_bytes}
use Rattle.mp_layout.specs.Emitted.{AreStarts, pieces_in}
use Rattle.mp_layout.proofs.pieces.emit_chunks.Given as goal

-- the chunks so far were copied, and each place is that of a sample
abbrev pub invariant-loop-at : goal.invariant-loop-at
invariant-loop-at g l = record {
  copied : Emits (g.F.Folder.state l.initial.folder) (g.F.Folder.state l.folder) (flat_map (λ track. track.pieces) l.tracks) (λ files. pieces_bytes files (pieces_in l.tracks (take l.at l.chunks)));
  starts : AreStarts l.tracks l.starts;
  room : length l.window ≡ length l.initial.window;
}

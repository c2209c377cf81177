use Rattle.std.proofs.Common.{◌≡◌, take, length}
use Rattle.mp_pieces.specs.Piece.{pieces_bytes}
use Rattle.mp_pieces.specs.Gathered.{Gathers, IsStand, gathered}
use Rattle.mp_pieces.proofs.copy.copy_pieces.Given as goal

abbrev pub invariant-loop-at : goal.invariant-loop-at
invariant-loop-at g l = record {
  gathers : Gathers (g.F.Folder.state l.initial.folder) (g.F.Folder.state l.folder) l.pieces (λ files. pieces_bytes files (take l.at l.pieces)) (gathered l.window l.stand);
  stands : IsStand (g.F.Folder.state l.folder) l.window l.stand;
  room : length l.window ≡ length l.initial.window;
}

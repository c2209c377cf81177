use Rattle.std.proofs.Common.{◌≡◌, ◌≤◌, ◌-◌, ◌++◌, [], ◌∷◌, length}
use Rattle.mp_pieces.specs.Piece.{range_bytes}
use Rattle.mp_pieces.specs.Gathered.{Gathers, IsStand, gathered}
use Rattle.mp_pieces.proofs.gather.gather_range.Given as goal

abbrev pub invariant-loop-done : goal.invariant-loop-done
invariant-loop-done g l = record {
  gathers : Gathers (g.F.Folder.state l.initial.folder) (g.F.Folder.state l.folder) (l.piece ∷ [])
      (λ files. gathered l.initial.window l.initial.stand ++ range_bytes files l.piece l.done) (gathered l.window l.stand);
  stands : IsStand (g.F.Folder.state l.folder) l.window l.stand;
  within : l.done ≤ l.len;
  room : length l.window ≡ length l.initial.window;
}

abbrev pub decreases-loop-done : goal.decreases-loop-done
decreases-loop-done g l = l.len - l.done

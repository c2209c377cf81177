use Rattle.std.proofs.Common.{◌≡◌, ◌-◌, ◌≤◌}
use Rattle.mp_ports.specs.Folder.{opened_at}
use Rattle.avc_units.specs.Scan.{Keeps, HasZeros}
use Rattle.avc_units.proofs.piece.Piece.first_byte.Given as goal

abbrev pub invariant-loop-at : goal.invariant-loop-at
invariant-loop-at g l =
    let start = g.F.Folder.state l.initial.folder in
    record {
      same : g.F.Folder.state l.folder ≡ start;
      low : l.from ≤ l.at;
      high : l.at ≤ l.source.size;
      kept : Keeps (opened_at start l.source.file) l.self;
      zeros : HasZeros (opened_at start l.source.file).bytes l.from (l.at - l.from);
    }

abbrev pub decreases-loop-at : goal.decreases-loop-at
decreases-loop-at g l = l.source.size - l.at

use Rattle.std.proofs.Common.{◌≡◌, ◌-◌, ◌≤◌, length}
use Rattle.mp_ports.specs.Folder.{opened_at}
use Rattle.avc_units.specs.Reader.{IsReaderOf}
use Rattle.avc_import.proofs.Judging.{IsSoFar}
use Rattle.avc_import.proofs.units.read_units.Given as goal

-- the reader stands behind units that are known, and the folder is as it was
abbrev pub invariant-loop-span : goal.invariant-loop-span
invariant-loop-span g l =
    let start = g.F.Folder.state l.initial.folder in
    record {
      same : g.F.Folder.state l.folder ≡ start;
      file : l.reader.file ≡ l.file;
      size : l.reader.size ≡ l.size;
      reader : IsReaderOf (opened_at start l.file) l.reader.size l.reader.piece;
      window : 16 ≤ length l.window.items;
      far : IsSoFar l.file l.size (opened_at start l.file).bytes l.sets l.pictures l.reader.end;
    }

abbrev pub decreases-loop-span : goal.decreases-loop-span
decreases-loop-span g l = l.size - l.reader.end

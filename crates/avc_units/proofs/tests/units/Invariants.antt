use Rattle.std.proofs.Common.{◌≡◌, ◌<◌, ◌≤◌, length}
use Rattle.mp_ports.specs.Folder.{opened_at}
use Rattle.avc_units.specs.Reader.{IsReaderOf}
use Rattle.avc_units.proofs.tests.units.Given as goal

abbrev pub invariant-loop : goal.invariant-loop
invariant-loop l = record {
  opened : l.file < length l.folder.folder.opened;
  file : l.reader.file ≡ l.file;
  reader : IsReaderOf (opened_at l.folder.folder l.file) l.reader.size l.reader.piece;
  window : 16 ≤ length l.window.items;
}

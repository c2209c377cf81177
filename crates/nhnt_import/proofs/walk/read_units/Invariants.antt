use Rattle.std.proofs.Common.{◌≡◌}
use Rattle.mp_ports.specs.Folder.{opened_at}
use Rattle.nhnt_import.specs.Window.{IsWindow}
use Rattle.nhnt_import.proofs.Walking.{Stands}
use Rattle.nhnt_import.proofs.walk.read_units.Given as goal

-- the walk stands at `at`, and the folder is as it was
abbrev pub invariant-loop-left : goal.invariant-loop-left
invariant-loop-left g l = record {
  same : g.F.Folder.state l.folder ≡ g.F.Folder.state l.initial.folder;
  window : IsWindow (g.F.Folder.state l.folder) l.table l.window;
  stands : Stands (opened_at (g.F.Folder.state l.initial.folder) l.table).bytes l.wide l.media l.size l.at l.before l.left l.count l.columns;
}

abbrev pub decreases-loop-left : goal.decreases-loop-left
decreases-loop-left g l = l.left

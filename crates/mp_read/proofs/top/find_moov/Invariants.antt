use Rattle.std.proofs.Common.{◌-◌, ◌≡◌, ◌≤◌, IfSome}
use Rattle.mp_ports.specs.Folder.{opened_at}
use Rattle.mp_pieces.specs.Window.{IsOf}
use Rattle.mp_read.specs.Top.{IsInFile}
use Rattle.mp_read.proofs.TopWalk.{TopWalked}
use Rattle.mp_read.proofs.top.find_moov.Given as goal

-- the walk stands at `at`, and the folder is as it was
abbrev pub invariant-loop-at : goal.invariant-loop-at
invariant-loop-at g l = record {
  inside : l.at ≤ l.size;
  same : g.F.Folder.state l.folder ≡ g.F.Folder.state l.initial.folder;
  file : l.window.file ≡ l.file;
  room : 65536 ≤ l.window.room;
  size : l.window.size ≡ l.size;
  part : IsOf (g.F.Folder.state l.folder) l.window;
  walked : IfSome (opened_at (g.F.Folder.state l.initial.folder) l.file).bytes (λ bytes. TopWalked bytes l.at l.fragment l.compressed l.moov);
  moov : IfSome l.moov.first (IsInFile l.size);
}

abbrev pub decreases-loop-at : goal.decreases-loop-at
decreases-loop-at g l = l.size - l.at

use Rattle.std.proofs.Common.{◌-◌, ◌*◌, ◌^◌, ◌≡◌, ◌≤◌, length, All, IfSome}
use Rattle.mp_ports.specs.Folder.{opened_at}
use Rattle.adts_import.specs.Places.{IsPayload}
use Rattle.adts_import.specs.Frame.{most_frames}
use Rattle.adts_import.specs.Window.{IsWindow}
use Rattle.adts_import.proofs.Walking.{Walked}
use Rattle.adts_import.proofs.walk.read_places.Given as goal

-- the walk stands at `at`, and the folder is as it was
abbrev pub invariant-loop-at : goal.invariant-loop-at
invariant-loop-at g l = record {
  inside : l.at ≤ l.size;
  same : g.F.Folder.state l.folder ≡ g.F.Folder.state l.initial.folder;
  window : IsWindow (g.F.Folder.state l.folder) l.file l.window;
  payloads : All (IsPayload l.file l.size) l.places.items;
  few : length l.places.items ≤ most_frames;
  short : l.at ≤ length l.places.items * 2 ^ 13;
  places : IfSome (opened_at (g.F.Folder.state l.initial.folder) l.file).bytes (λ bytes. Walked l.file bytes l.at l.places.items);
}

abbrev pub decreases-loop-at : goal.decreases-loop-at
decreases-loop-at g l = l.size - l.at

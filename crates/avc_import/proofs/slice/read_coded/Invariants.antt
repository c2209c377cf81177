use Rattle.std.proofs.Common.{◌≡◌, ◌<◌, ◌≤◌, ◌-◌}
use Rattle.avc_import.proofs.slice.read_coded.Given as goal

abbrev pub invariant-loop-front : goal.invariant-loop-front
invariant-loop-front g l = record {
  same : g.F.Folder.state l.folder ≡ g.F.Folder.state l.initial.folder;
  some : 0 < l.len;
  inside : l.len ≤ l.span.len;
}

abbrev pub decreases-loop-front : goal.decreases-loop-front
decreases-loop-front g l = l.span.len - l.len

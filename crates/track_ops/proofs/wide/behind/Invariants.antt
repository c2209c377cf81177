use Rattle.std.proofs.Common.{◌≡◌, ◌≤◌, ◌++◌, drop}
use Rattle.track_ops.specs.Wide.{as_segments}
use Rattle.track_ops.proofs.WideSegments.{left_of}
use Rattle.track_ops.proofs.wide.behind.Given as goal

-- the pieces so far, and those of the segments that are left
abbrev pub invariant-loop-segment : goal.invariant-loop-segment
invariant-loop-segment l = record {
  less : l.left ≤ l.time;
  pieces : as_segments l.pieces.items ++ left_of l.left (drop l.segment-index l.segments) ≡ left_of l.time l.segments;
}

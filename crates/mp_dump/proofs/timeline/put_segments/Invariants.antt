use Rattle.std.proofs.Common.{◌≡◌, ◌++◌, drop}
use Rattle.std.specs.List.{flat_map}
use Rattle.mp_dump.specs.Timeline.{segment_line}
use Rattle.mp_dump.proofs.timeline.put_segments.Given as goal

-- what is written, and what is left, are all
abbrev pub invariant-loop-segment : goal.invariant-loop-segment
invariant-loop-segment l = l.out.items ++ flat_map segment_line (drop l.segment-index l.edits) ≡ l.initial.out.items ++ flat_map segment_line l.edits

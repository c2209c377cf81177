use Rattle.std.proofs.Common.{◌≡◌, ◌++◌, drop, map}
use Rattle.mp_shown.specs.Segments.{in_unit}
use Rattle.track_ops.specs.Wide.{as_segments}
use Rattle.track_ops.proofs.wide.push_edits.Given as goal

-- the segments so far, and those that are left
abbrev pub invariant-loop-segment : goal.invariant-loop-segment
invariant-loop-segment l =
    as_segments l.segments.items ++ map (in_unit l.of_start l.of_length) (drop l.segment-index l.edits) ≡ as_segments l.fn.segments.items ++ map (in_unit l.of_start l.of_length) l.edits

use Rattle.std.proofs.Common.{◌≡◌, ◌++◌, drop, map}
use Rattle.track_ops.specs.KeptShown.{capped_in}
use Rattle.track_ops.specs.Wide.{as_segments}
use Rattle.track_ops.proofs.showing.told.Given as goal

-- the segments so far, and those that are left
abbrev pub invariant-loop-segment : goal.invariant-loop-segment
invariant-loop-segment l =
    l.told.items ++ map (capped_in l.of_start l.of_length) (as_segments (drop l.segment-index l.segments)) ≡ map (capped_in l.of_start l.of_length) (as_segments l.segments)

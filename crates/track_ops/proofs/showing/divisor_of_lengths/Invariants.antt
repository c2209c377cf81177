use Rattle.std.proofs.Common.{◌*◌, drop, map}
use Rattle.mp_edits.specs.Segments.{duration}
use Rattle.track_ops.specs.Wide.{as_segments}
use Rattle.track_ops.proofs.WideDivisors.{IsDivisorSoFar}
use Rattle.track_ops.proofs.showing.divisor_of_lengths.Given as goal

abbrev pub invariant-loop-segment : goal.invariant-loop-segment
invariant-loop-segment l = IsDivisorSoFar (l.track_scale * 1000) (map duration (as_segments l.segments)) (map duration (as_segments (drop l.segment-index l.segments))) l.divisor

use Rattle.std.proofs.Common.{◌*◌, drop}
use Rattle.mp_clip.specs.Clipped.{starts}
use Rattle.track_ops.specs.Wide.{as_segments}
use Rattle.track_ops.proofs.WideDivisors.{IsDivisorSoFar}
use Rattle.track_ops.proofs.showing.divisor_of_starts.Given as goal

abbrev pub invariant-loop-segment : goal.invariant-loop-segment
invariant-loop-segment l = IsDivisorSoFar (l.movie_scale * 1000) (starts (as_segments l.segments)) (starts (as_segments (drop l.segment-index l.segments))) l.divisor

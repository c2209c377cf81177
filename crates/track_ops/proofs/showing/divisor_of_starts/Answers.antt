use Rattle.std.proofs.Common.{◌*◌, None, arith}
use Rattle.track_ops.proofs.WideDivisors.{all_starts, next_start}
use Rattle.track_ops.proofs.showing.divisor_of_starts.Goals as goal

pub loop-segment-preserved : goal.loop-segment-preserved
loop-segment-preserved c =
    next_start (c.args.movie_scale * 1000) c.loop-segment.divisor c.with_start-divisor.result c.loop-segment.segment-index c.args.segments.now (record { start = None; length = 0 }) c.loop-segment-test.true c.loop-segment.invariant c.with_start-divisor.ensures.some
    c.with_start-divisor.ensures.common

pub returns-clause-common : goal.returns-clause-common
returns-clause-common c = all_starts (c.args.movie_scale * 1000) c.loop-segment.divisor c.loop-segment.segment-index c.args.segments.now (omega (arith, c.loop-segment-test.false)) c.loop-segment.invariant

use Rattle.std.proofs.Common.{◌*◌, None, arith}
use Rattle.track_ops.proofs.WideDivisors.{all_lengths, next_length}
use Rattle.track_ops.proofs.showing.divisor_of_lengths.Goals as goal

pub loop-segment-preserved : goal.loop-segment-preserved
loop-segment-preserved c =
    next_length (c.args.track_scale * 1000) c.loop-segment.divisor c.common_divisor-divisor.result c.loop-segment.segment-index c.args.segments.now (record { start = None; length = 0 }) c.loop-segment-test.true c.loop-segment.invariant c.common_divisor-divisor.ensures

pub returns-clause-common : goal.returns-clause-common
returns-clause-common c = all_lengths (c.args.track_scale * 1000) c.loop-segment.divisor c.loop-segment.segment-index c.args.segments.now (omega (arith, c.loop-segment-test.false)) c.loop-segment.invariant

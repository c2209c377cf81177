use Rattle.std.proofs.Common.{sym}
use Rattle.mp_timeline.specs.declared.segment.Segment.TheVariants.{Empty}
use Rattle.track_ops.proofs.Summaries.{divisor_more}
use Rattle.track_ops.proofs.summary.divisor_of.Goals as goal

pub loop-segment-preserved : goal.loop-segment-preserved
loop-segment-preserved c =
    divisor_more c.args.number c.args.edits.now c.loop-segment.segment-index c.loop-segment.divisor c.gcd-divisor.result (Empty 0) c.loop-segment-test.true c.loop-segment.invariant (rw (sym c.duration.ensures) c.gcd-divisor.ensures)

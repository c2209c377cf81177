use Rattle.std.proofs.Common.{arith}
use Rattle.cut_op.proofs.Reaching.{all_reached, one_reached}
use Rattle.cut_op.proofs.reach.reach.Goals as goal

pub loop-span-preserved : goal.loop-span-preserved
loop-span-preserved c =
    one_reached c.loop-span.spans c.args.spans.now c.loop-span.span-index c.loop-span.latest c.reach_one-latest.result _ c.reach_one-latest.new.span c.loop-span-test.true c.loop-span.invariant
    c.reach_one-latest.ensures.latest c.reach_one-latest.ensures.span

pub returns : goal.returns
returns c = all_reached c.loop-span.spans c.args.spans.now c.loop-span.span-index c.loop-span.latest (omega (arith, c.loop-span-test.false)) c.loop-span.invariant

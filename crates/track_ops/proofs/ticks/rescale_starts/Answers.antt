use Rattle.mp_timeline.specs.declared.segment.Segment.TheVariants.{Empty}
use Rattle.track_ops.specs.Ticks.{starting}
use Rattle.track_ops.proofs.Changing.{changed_next, same_item}
use Rattle.track_ops.proofs.ticks.rescale_starts.Goals as goal

pub starting-requires-clause-short : goal.starting-requires-clause-short
starting-requires-clause-short c =
    rw (same_item (starting c.args.old c.args.new) c.loop-segment.edits c.args.edits.now c.loop-segment.segment-index (Empty 0) c.loop-segment-test.true c.loop-segment.invariant)
    (c.requires.short c.loop-segment.segment-index (Empty 0) c.loop-segment-test.true)

pub loop-segment-preserved : goal.loop-segment-preserved
loop-segment-preserved c =
    changed_next (starting c.args.old c.args.new) c.loop-segment.edits c.args.edits.now c.loop-segment.segment-index (Empty 0) c.starting.result c.loop-segment-test.true c.loop-segment.invariant c.starting.ensures

use Rattle.mp_timeline.specs.declared.segment.Segment.TheVariants.{Empty}
use Rattle.track_ops.specs.Scales.{lasting}
use Rattle.track_ops.proofs.Changing.{changed_next, same_item}
use Rattle.track_ops.proofs.rescale.rescale.Goals as goal

pub lasting-requires-clause-short : goal.lasting-requires-clause-short
lasting-requires-clause-short c =
    rw (same_item (lasting c.args.old c.args.new) c.loop-segment.edits c.args.edits.now c.loop-segment.segment-index (Empty 0) c.loop-segment-test.true c.loop-segment.invariant)
    (c.requires.short c.loop-segment.segment-index (Empty 0) c.loop-segment-test.true)

pub loop-segment-preserved : goal.loop-segment-preserved
loop-segment-preserved c =
    changed_next (lasting c.args.old c.args.new) c.loop-segment.edits c.args.edits.now c.loop-segment.segment-index (Empty 0) c.lasting.result c.loop-segment-test.true c.loop-segment.invariant c.lasting.ensures

use Rattle.std.proofs.lemmas.List.{drop_more, drop_all}
use Rattle.mp_timeline.specs.declared.segment.Segment.TheVariants.{Empty}
use Rattle.mp_edits.proofs.put.push_entries.Goals as goal

pub loop-segment-preserved : goal.loop-segment-preserved
loop-segment-preserved c = λ rest all p.
    rw c.entry_fields.ensures at c.push_fields.ensures _ all (rw (drop_more c.args.edits.now c.loop-segment.segment-index (Empty 0) c.loop-segment-test.true) at (c.loop-segment.invariant rest all p))

pub returns : goal.returns
returns c = λ rest all p. rw (drop_all c.loop-segment.segment-index c.args.edits.now c.loop-segment-test.false) at (c.loop-segment.invariant rest all p)

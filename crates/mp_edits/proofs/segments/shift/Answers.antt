use Rattle.std.proofs.Common.{◌≡◌, w64, to_z, of_z}
use Rattle.std.proofs.lemmas.Int.{to_z-of_z}
use Rattle.mp_timeline.specs.declared.segment.Segment.TheVariants.{Empty}
use Rattle.mp_edits.specs.Segments.{shifted}
use Rattle.mp_edits.proofs.Shifting.{same_segment, front_next, rest_next}
use Rattle.mp_edits.proofs.segments.shift.Goals as goal

pub shifted-requires : goal.shifted-requires
shifted-requires c =
    let same = same_segment c.loop-segment.edits c.args.edits.now c.loop-segment.segment-index (Empty 0) c.loop-segment-test.true c.loop-segment.auto.edits c.loop-segment.invariant.rest in
    let by : to_z w64 (of_z w64 c.args.by) ≡ c.args.by = to_z-of_z w64 c.args.by c.ranges.by in
    rw (by, same) (c.requires c.loop-segment.segment-index (Empty 0) c.loop-segment-test.true)

pub loop-segment-preserved : goal.loop-segment-preserved
loop-segment-preserved c =
    let same = same_segment c.loop-segment.edits c.args.edits.now c.loop-segment.segment-index (Empty 0) c.loop-segment-test.true c.loop-segment.auto.edits c.loop-segment.invariant.rest in
    record {
      front =
          front_next (shifted _) c.loop-segment.edits c.args.edits.now c.loop-segment.segment-index (Empty 0) c.shifted.result c.loop-segment-test.true c.loop-segment.auto.edits
          (rw same at c.shifted.ensures) c.loop-segment.invariant.front;
      rest = rest_next c.loop-segment.edits c.args.edits.now c.loop-segment.segment-index (Empty 0) c.shifted.result c.loop-segment-test.true c.loop-segment.auto.edits c.loop-segment.invariant.rest;
    }

use Rattle.std.proofs.Common.{None}
use Rattle.track_ops.proofs.WideSegments.{start_room}
use Rattle.track_ops.proofs.wide.behind.Goals as goal

pub part_behind-requires-clause-room : goal.part_behind-requires-clause-room
part_behind-requires-clause-room c =
    start_room c.args.segments.now c.args.time c.loop-segment.left c.loop-segment.segment-index (record { start = None; length = 0 }) c.loop-segment-test.true c.loop-segment.invariant.less c.requires

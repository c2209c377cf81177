use Rattle.std.proofs.Common.{◌≡◌, ◌+◌, drop}
use Rattle.mp_edits.specs.Segments.{total}
use Rattle.track_ops.specs.Wide.{as_segments}
use Rattle.track_ops.proofs.wide.total.Given as goal

-- the sum so far, and that of those that are left
abbrev pub invariant-loop-segment : goal.invariant-loop-segment
invariant-loop-segment l = l.sum + total (as_segments (drop l.segment-index l.segments)) ≡ total (as_segments l.segments)

use Rattle.std.proofs.Common.{◌≡◌, ◌^◌, ◌-◌, min, take}
use Rattle.mp_edits.specs.Segments.{total}
use Rattle.mp_edits.proofs.segments.capped_total.Given as goal

-- the sum of the segments so far
abbrev pub invariant-loop-segment : goal.invariant-loop-segment
invariant-loop-segment l = l.sum ≡ min (total (take l.segment-index l.edits)) (2 ^ 64 - 1)

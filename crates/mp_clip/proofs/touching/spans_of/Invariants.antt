use Rattle.std.proofs.Common.{◌*◌, drop, map}
use Rattle.mp_clip.specs.Cut.{cuts_of, piece_of}
use Rattle.mp_clip.proofs.Touches.{LeadsToSpans}
use Rattle.mp_clip.proofs.touching.spans_of.Given as goal

-- the spans so far, and the pieces that are left, touch what all pieces touch
abbrev pub invariant-loop-segment : goal.invariant-loop-segment
invariant-loop-segment l =
    LeadsToSpans (l.scales.movie * (l.scales.from * l.scales.to)) (map (piece_of l.scales) (cuts_of l.scales l.from l.to l.edits)) l.spans.items
    (map (piece_of l.scales) (cuts_of l.scales l.begin l.end (drop l.segment-index l.edits)))

use Rattle.std.proofs.Common.{◌*◌, drop}
use Rattle.mp_clip.specs.Counted.{IsCounted}
use Rattle.mp_clip.specs.Cut.{cuts_of}
use Rattle.mp_clip.proofs.shape.tally_of.Given as goal

-- what is counted so far, and the pieces that are left, make all
abbrev pub invariant-loop-segment : goal.invariant-loop-segment
invariant-loop-segment l =
    IsCounted (l.scales.movie * l.scales.from) (l.scales.from * l.scales.to) (cuts_of l.scales l.from l.to l.edits) l.tally (cuts_of l.scales l.begin l.end (drop l.segment-index l.edits))

use Rattle.std.proofs.Common.{◌∷◌, map, take}
use Rattle.mp_edits.specs.Segments.{duration}
use Rattle.mp_frac.specs.Divisors.{IsGreatestCommon}
use Rattle.track_ops.proofs.summary.divisor_of.Given as goal

-- of the number and the segments so far
abbrev pub invariant-loop-segment : goal.invariant-loop-segment
invariant-loop-segment l = IsGreatestCommon (l.number ∷ map duration (take l.segment-index l.edits)) l.divisor

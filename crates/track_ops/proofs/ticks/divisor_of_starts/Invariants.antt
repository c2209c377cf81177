use Rattle.std.proofs.Common.{ℕ, ◌∷◌, drop}
use Rattle.mp_clip.specs.Clipped.{starts}
use Rattle.mp_frac.specs.Divisors.{IsGreatestCommon}
use Rattle.track_ops.proofs.ticks.divisor_of_starts.Given as goal

-- with the starts that are left it divides what all are divided by
abbrev pub invariant-loop-segment : goal.invariant-loop-segment
invariant-loop-segment l = (divisor : ℕ) → IsGreatestCommon (l.divisor ∷ starts (drop l.segment-index l.edits)) divisor → IsGreatestCommon (l.number ∷ starts l.edits) divisor

use Rattle.std.proofs.Common.{ℕ, [], ◌∷◌}
use Rattle.mp_frac.specs.Divisors.{IsGreatestCommon}
use Rattle.mp_frac.proofs.divisors.gcd.Given as goal

abbrev pub invariant-loop-rest : goal.invariant-loop-rest
invariant-loop-rest l = (greatest : ℕ) → IsGreatestCommon (l.greater ∷ l.rest ∷ []) greatest → IsGreatestCommon (l.a ∷ l.b ∷ []) greatest

abbrev pub decreases-loop-rest : goal.decreases-loop-rest
decreases-loop-rest l = l.rest

use Rattle.std.proofs.Common.{[], ◌∷◌, ◌<◌}
use Rattle.std.proofs.Math.Nat.{pos_of_dvd_of_pos}
use Rattle.mp_frac.specs.Divisors.{IsGreatestCommon, IsLeastCommon, most}
use Rattle.mp_frac.proofs.CommonDivisors.{least_from_greatest, wanted_up_to}
use Rattle.mp_frac.proofs.divisors.lcm.Goals as goal
use Rattle.mp_frac.proofs.divisors.lcm.Goals.{After-gcd-common}

is_greatest : (c : After-gcd-common) → IsGreatestCommon (c.args.a ∷ c.args.b ∷ []) c.gcd-common.result
is_greatest c = rw (c.from-a.ensures, c.from-b.ensures) at c.gcd-common.ensures

some : (c : After-gcd-common) → 0 < c.gcd-common.result
some c = pos_of_dvd_of_pos (is_greatest c).divides.0 c.requires.first

pub nonzero_div-a : goal.nonzero_div-a
nonzero_div-a c = some (goal.at.nonzero_div-a c).After-gcd-common

pub returns : goal.returns
returns c =
    let g = (goal.at.returns c).After-gcd-common in
    rw c.narrow.ensures (wanted_up_to most _ (IsLeastCommon c.args.a c.args.b) (rw (c.from-a.ensures, c.from-b.ensures) (least_from_greatest c.args.a c.args.b c.gcd-common.result (is_greatest g) (some g))))

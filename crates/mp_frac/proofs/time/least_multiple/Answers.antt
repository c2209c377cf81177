use Rattle.std.proofs.Common.{[], ◌∷◌, ◌*◌, ◌%◌}
use Rattle.std.specs.Int.{w128}
use Rattle.std.specs.Int.RustNames.{unsigned_abs}
use Rattle.std.proofs.Math.Nat.{pos_of_dvd_of_pos}
use Rattle.std.proofs.lemmas.Int.{to_z-of_z}
use Rattle.mp_frac.specs.Divisors.{IsGreatestCommon, most}
use Rattle.mp_frac.specs.Time.{IsLeastWhole}
use Rattle.mp_frac.proofs.CommonDivisors.{wanted_up_to}
use Rattle.mp_frac.proofs.Products.{small_fits}
use Rattle.mp_frac.proofs.WholeTimes.{least_from_common}
use Rattle.mp_frac.proofs.time.least_multiple.Goals as goal
use Rattle.mp_frac.proofs.time.least_multiple.Goals.{After-gcd-common}

is_greatest : (c : After-gcd-common) → IsGreatestCommon (c.args.part.d ∷ (unsigned_abs c.args.part.n % c.args.part.d) * c.args.scale ∷ []) c.gcd-common.result
is_greatest c =
    let fits = small_fits c.args.part.n c.requires.time.small in
    rw (c.from-d.ensures, c.unsigned_abs.ensures.value, c.from.ensures, c.from-2.ensures, to_z-of_z w128 c.args.part.n fits) at c.gcd-common.ensures

pub nonzero_div-d : goal.nonzero_div-d
nonzero_div-d c = pos_of_dvd_of_pos (is_greatest (goal.at.nonzero_div-d c).After-gcd-common).divides.0 c.requires.time.some

pub returns : goal.returns
returns c =
    let g = is_greatest (goal.at.returns c).After-gcd-common in
    rw c.narrow.ensures (wanted_up_to most _ (IsLeastWhole c.args.scale c.args.part) (rw (c.from-3.ensures, c.from-d.ensures) (least_from_common c.args.scale c.args.part c.gcd-common.result c.requires.scale c.requires.time.some g)))

use Rattle.std.proofs.Common.{rules, ◌≡◌, ℕ, ◌<◌, ◌*◌, ◌/◌, ◌%◌, List, [], ◌∷◌, refl, sym, ap, subst, ◌∙◌, arith, to_z, of_z}
use Rattle.std.specs.Int.{w128}
use Rattle.std.proofs.lemmas.Int.{to_z-of_z}
use Rattle.mp_frac.specs.Divisors.{IsGreatestCommon}
use Rattle.cut_op.proofs.Differences.{difference_none, difference_range, difference_same}
use Rattle.cut_op.proofs.LowestTerms.{some_common}
use Rattle.cut_op.proofs.Units.{times_some}
use Rattle.cut_op.proofs.shape.difference.Goals as goal
use Rattle.cut_op.proofs.shape.difference.Goals.{After-gcd-common}

-- of the parts of a second
is_common : (c : After-gcd-common) → IsGreatestCommon (c.args.later.d * c.args.time.d ∷ c.ticks_between-n.result % (c.args.later.d * c.args.time.d) ∷ []) c.gcd-common.result
is_common c =
    subst (λ (d : ℕ). IsGreatestCommon (d ∷ c.ticks_between-n.result % d ∷ []) c.gcd-common.result) c.parts_of_both-d.ensures
    (subst (λ (rest : ℕ). IsGreatestCommon (c.parts_of_both-d.result ∷ rest ∷ []) c.gcd-common.result) c.rest_by.ensures c.gcd-common.ensures)

pub rest_by-requires : goal.rest_by-requires
rest_by-requires c = subst (λ (d : ℕ). 0 < d) (sym c.parts_of_both-d.ensures) (times_some c.args.later.d c.args.time.d c.requires.later.some c.requires.time.some)

pub nonzero_div-d : goal.nonzero_div-d
nonzero_div-d c =
    some_common c.ticks_between-n.result (c.args.later.d * c.args.time.d) c.gcd-common.result (times_some c.args.later.d c.args.time.d c.requires.later.some c.requires.time.some) (is_common (goal.at.nonzero_div-d c).After-gcd-common)

pub seconds_by-requires-clause-some : goal.seconds_by-requires-clause-some
seconds_by-requires-clause-some c =
    some_common c.ticks_between-n.result (c.args.later.d * c.args.time.d) c.gcd-common.result (times_some c.args.later.d c.args.time.d c.requires.later.some c.requires.time.some) (is_common (goal.at.seconds_by-requires-clause-some c).After-gcd-common)

pub returns-in-Ok-clause-some : goal.returns-in-Ok-clause-some
returns-in-Ok-clause-some c =
    difference_same c.args.time c.args.later c.ticks_between-n.result c.gcd-common.result c.requires.time.some c.requires.later.some c.ticks_between-n.ensures.value (is_common (goal.at.returns-in-Ok-clause-some c).After-gcd-common)
    (record { n = to_z w128 (of_z w128 c.seconds_by.result); d = c.in-Ok.lowest }) (to_z-of_z w128 c.seconds_by.result (search rules) ∙ c.seconds_by.ensures) (search rules)

pub returns-in-Ok-clause-range : goal.returns-in-Ok-clause-range
returns-in-Ok-clause-range c =
    difference_range c.args.time c.args.later c.ticks_between-n.result c.gcd-common.result c.requires.time.some c.requires.later.some c.ticks_between-n.ensures.value (is_common (goal.at.returns-in-Ok-clause-range c).After-gcd-common)
    (record { n = to_z w128 (of_z w128 c.seconds_by.result); d = c.in-Ok.lowest }) (to_z-of_z w128 c.seconds_by.result (search rules) ∙ c.seconds_by.ensures) (search rules) (search rules) c.ticks_between-n.ensures.short c.requires.short

pub returns-in-Err-clause-none : goal.returns-in-Err-clause-none
returns-in-Err-clause-none c =
    difference_none c.args.time c.args.later c.ticks_between-n.result c.gcd-common.result c.requires.time.some c.requires.later.some c.ticks_between-n.ensures.value (is_common (goal.at.returns-in-Err-clause-none c).After-gcd-common)
    c.wholeness_is_division.ensures (search rules)

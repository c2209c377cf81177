use Rattle.std.proofs.Common.{rules, ◌≡◌, ◌<◌, ◌≤◌, ◌^◌, ℕ, ℤ, List, All, length, take, ap, ◌∙◌, arith}
use Rattle.std.specs.Prelude.{sum, unsigned_abs}
use Rattle.std.specs.Int.{w32, w128, FitsUnsigned}
use Rattle.std.proofs.lemmas.Int.{to_z-of_z}
use Rattle.mp_columns.specs.Numbers.{total}
use Rattle.mp_movie.specs.Placed.{naturals}
use Rattle.cut_op.proofs.FrontSums.{by_recursion, fits_natural, front_short, front_total, unless_same}
use Rattle.cut_op.proofs.plan.first_ticks.Goals as goal
use Rattle.cut_op.proofs.plan.first_ticks.Goals.{After-unsigned_abs}

sum_is : (c : After-unsigned_abs) → c.unsigned_abs.result ≡ sum (take c.args.kept.from (naturals c.args.track.now.deltas))
sum_is c =
    let deltas : c.track.inside.deltas ≡ c.args.track.now.deltas = search rules in
    c.unsigned_abs.ensures.value
    ∙ ap unsigned_abs (to_z-of_z w128 c.prefix.result (search rules)
    ∙ (c.prefix.ensures ∙ (ap (λ (column : List ℤ). total (take c.args.kept.from column)) deltas ∙ front_total c.args.track.now.deltas c.args.kept.from (fits_natural c.args.track.now.deltas c.requires.deltas))))

is_short : (c : After-unsigned_abs) → c.unsigned_abs.result < 2 ^ 56
is_short c =
    let is = sum_is c in
    let most : length c.args.track.now.deltas ≤ 8388608 = search rules in
    let short = front_short c.args.track.now.deltas c.args.kept.from (by_recursion (FitsUnsigned w32) c.args.track.now.deltas c.requires.deltas) in
    let few : c.args.kept.from < 8388608 = differ c.args.kept.from c.args.kept.to (length c.args.track.now.deltas) c.if-kept.false c.requires.order c.requires.inside most in
    omega (arith, is, short, few)
  where
    differ : (a b n : ℕ) → (a ≡ b → ⊥) → a ≤ b → b ≤ n → n ≤ 8388608 → a < 8388608
    differ a b n other le inside most = omega (arith, other, le, inside, most)

pub overflow_cast-result : goal.overflow_cast-result
overflow_cast-result c = let short = is_short (goal.at.overflow_cast-result c).After-unsigned_abs in omega (arith, short)

pub returns-clause-first : goal.returns-clause-first
returns-clause-first c = sum_is c ∙ unless_same c.args.kept.from c.args.kept.to (sum (take c.args.kept.from (naturals c.args.track.now.deltas))) c.if-kept.false

pub returns-clause-short : goal.returns-clause-short
returns-clause-short c = is_short c

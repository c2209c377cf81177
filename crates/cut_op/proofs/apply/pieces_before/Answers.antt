use Rattle.std.proofs.Common.{rules, ◌≡◌, ◌≤◌, ℕ, take, ap, ◌∙◌, arith}
use Rattle.std.specs.Prelude.{sum, unsigned_abs}
use Rattle.std.specs.Int.{w128}
use Rattle.std.proofs.lemmas.Int.{to_z-of_z}
use Rattle.std.proofs.lemmas.List.Sums.{sum_by-take-le}
use Rattle.mp_movie.specs.Placed.{naturals}
use Rattle.cut_op.proofs.FrontSums.{front_total}
use Rattle.cut_op.proofs.apply.pieces_before.Goals as goal

pub overflow_cast-result : goal.overflow_cast-result
overflow_cast-result c =
    let count : c.unsigned_abs.result ≡ sum (take c.args.samples (naturals c.args.counts.now)) =
    c.unsigned_abs.ensures.value ∙ ap unsigned_abs (to_z-of_z w128 c.prefix.result (search rules) ∙ (c.prefix.ensures ∙ front_total c.args.counts.now c.args.samples c.requires.natural)) in
    let most = sum_by-take-le (λ (n : ℕ). n) (naturals c.args.counts.now) c.args.samples in
    omega (arith, count, most, c.requires.counted, c.ranges.all.fits)

pub returns-clause-count : goal.returns-clause-count
returns-clause-count c =
    c.unsigned_abs.ensures.value ∙ ap unsigned_abs (to_z-of_z w128 c.prefix.result (search rules) ∙ (c.prefix.ensures ∙ front_total c.args.counts.now c.args.samples c.requires.natural))

pub returns-clause-within : goal.returns-clause-within
returns-clause-within c =
    let count : c.unsigned_abs.result ≡ sum (take c.args.samples (naturals c.args.counts.now)) =
    c.unsigned_abs.ensures.value ∙ ap unsigned_abs (to_z-of_z w128 c.prefix.result (search rules) ∙ (c.prefix.ensures ∙ front_total c.args.counts.now c.args.samples c.requires.natural)) in
    let most = sum_by-take-le (λ (n : ℕ). n) (naturals c.args.counts.now) c.args.samples in
    omega (arith, count, most, c.requires.counted)

use Rattle.std.proofs.Common.{rules, ap, ◌∙◌, ◌≡◌, ◌<◌, ℤ, pos, int_div, get_or, length, FitsSigned}
use Rattle.std.specs.Int.{w128}
use Rattle.std.proofs.lemmas.Int.{ints}
use Rattle.mp_columns.proofs.Mapping.{comes_unchanged, one_more, quotient_is}
use Rattle.mp_columns.proofs.sums.divide_sums.Goals as goal

pub loop-sum-preserved : goal.loop-sum-preserved
loop-sum-preserved c =
    let old = c.args.sums.now in
    let now = c.loop-sum.sums in
    let i = c.loop-sum.sum-index in
    let f = λ (x : ℤ). int_div x (pos c.args.k) in
    let lt : i < length old = c.loop-sum-test.true in
    let item = get_or now i (pos 0) in
    let same : item ≡ get_or old i (pos 0) = comes_unchanged f old i (pos 0) lt now c.loop-sum.invariant in
    let fits : FitsSigned w128 item = search rules in
    one_more f old i (pos 0) lt now _ c.loop-sum.invariant (quotient_is w128 item c.from.result c.args.k c.from.ensures c.requires fits (search (rules, ints)) ∙ ap f same)

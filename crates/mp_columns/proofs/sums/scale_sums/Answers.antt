use Rattle.std.proofs.Common.{rules, ap, ◌∙◌, ◌≡◌, ◌<◌, ℤ, pos, ◌*ℤ◌, get_or, length, FitsSigned}
use Rattle.std.specs.Int.{w128}
use Rattle.std.proofs.lemmas.Int.{ints}
use Rattle.mp_columns.proofs.Mapping.{comes_unchanged, one_more, product_is}
use Rattle.mp_columns.proofs.sums.scale_sums.Goals as goal

pub loop-sum-preserved : goal.loop-sum-preserved
loop-sum-preserved c =
    let old = c.args.sums.now in
    let now = c.loop-sum.sums in
    let i = c.loop-sum.sum-index in
    let f = λ (x : ℤ). x *ℤ pos c.args.k in
    let lt : i < length old = c.loop-sum-test.true in
    let item = get_or now i (pos 0) in
    let same : item ≡ get_or old i (pos 0) = comes_unchanged f old i (pos 0) lt now c.loop-sum.invariant in
    let fits : FitsSigned w128 item = search rules in
    let product_fits : FitsSigned w128 (item *ℤ pos c.args.k) = rw same (c.requires i (pos 0) lt) in
    one_more f old i (pos 0) lt now _ c.loop-sum.invariant (product_is w128 item c.from.result c.args.k c.from.ensures fits (search (rules, ints)) product_fits ∙ ap f same)

use Rattle.std.proofs.Common.{rules, ap, ◌∙◌, ◌≡◌, ◌<◌, ℤ, pos, ◌*ℤ◌, get_or, length, w64, FitsSigned}
use Rattle.std.proofs.lemmas.Int.{ints}
use Rattle.mp_columns.proofs.Mapping.{comes_unchanged, one_more, product_is}
use Rattle.mp_columns.proofs.walks.scale_each.Goals as goal

pub loop-item-preserved : goal.loop-item-preserved
loop-item-preserved c =
    let old = c.args.items.now in
    let now = c.loop-item.items in
    let i = c.loop-item.item-index in
    let f = λ (x : ℤ). x *ℤ pos c.args.k in
    let lt : i < length old = c.loop-item-test.true in
    let item = get_or now i (pos 0) in
    let same : item ≡ get_or old i (pos 0) = comes_unchanged f old i (pos 0) lt now c.loop-item.invariant in
    let fits : FitsSigned w64 item = search rules in
    let product_fits : FitsSigned w64 (item *ℤ pos c.args.k) = rw same (c.requires i (pos 0) lt) in
    one_more f old i (pos 0) lt now _ c.loop-item.invariant (product_is w64 item c.from.result c.args.k c.from.ensures fits (search (rules, ints)) product_fits ∙ ap f same)

use Rattle.std.proofs.Common.{rules, ap, ◌∙◌, ◌≡◌, ◌<◌, ℤ, pos, ◌*ℤ◌, int_div, get_or, length, map, w64, FitsSigned}
use Rattle.std.proofs.lemmas.Int.{ints}
use Rattle.mp_columns.proofs.Mapping.{comes_unchanged, one_more, all_done, quotient_is, quotients_times}
use Rattle.mp_columns.proofs.walks.divide_each.Goals as goal

pub loop-item-preserved : goal.loop-item-preserved
loop-item-preserved c =
    let old = c.args.items.now in
    let now = c.loop-item.items in
    let i = c.loop-item.item-index in
    let f = λ (x : ℤ). int_div x (pos c.args.k) in
    let lt : i < length old = c.loop-item-test.true in
    let item = get_or now i (pos 0) in
    let same : item ≡ get_or old i (pos 0) = comes_unchanged f old i (pos 0) lt now c.loop-item.invariant in
    let fits : FitsSigned w64 item = search rules in
    one_more f old i (pos 0) lt now _ c.loop-item.invariant (quotient_is w64 item c.from.result c.args.k c.from.ensures c.requires.some fits (search (rules, ints)) ∙ ap f same)

pub returns-clause-exact : goal.returns-clause-exact
returns-clause-exact c =
    let old = c.args.items.now in
    let f = λ (x : ℤ). int_div x (pos c.args.k) in
    ap (map (λ (x : ℤ). x *ℤ pos c.args.k)) (all_done f old c.loop-item.items c.loop-item.item-index c.loop-item.invariant c.loop-item-test.false) ∙ quotients_times c.args.k old c.requires.whole

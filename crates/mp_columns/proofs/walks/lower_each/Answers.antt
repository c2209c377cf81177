use Rattle.std.proofs.Common.{ap, ◌≡◌, ◌<◌, ℕ, ◌-◌, get_or, length}
use Rattle.mp_columns.proofs.Mapping.{comes_unchanged, one_more}
use Rattle.mp_columns.proofs.walks.lower_each.Goals as goal

pub loop-number-preserved : goal.loop-number-preserved
loop-number-preserved c =
    let old = c.args.numbers.now in
    let now = c.loop-number.numbers in
    let i = c.loop-number.number-index in
    let f = λ (x : ℕ). x - c.args.by in
    let lt : i < length old = c.loop-number-test.true in
    let same : get_or now i 0 ≡ get_or old i 0 = comes_unchanged f old i 0 lt now c.loop-number.invariant in
    one_more f old i 0 lt now _ c.loop-number.invariant (ap f same)

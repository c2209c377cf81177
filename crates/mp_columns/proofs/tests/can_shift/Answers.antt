use Rattle.std.proofs.Common.{◌<◌, ◌∙◌, rules, All, FitsSigned, w64, to_z, of_z, arith, length, pos, ◌+ℤ◌, subst, take_all, ℤ, List}
use Rattle.std.proofs.lemmas.Int.{to_z-of_z}
use Rattle.std.proofs.lemmas.List.Elements.{All-more}
use Rattle.mp_columns.proofs.tests.can_shift.Goals as goal

pub loop-i-preserved : goal.loop-i-preserved
loop-i-preserved g c =
    let inside : c.loop-i.i < length (g.C.Column.items c.args.column.now) = omega (arith, c.len-i-end.ensures.count) in
    let by = to_z w64 (of_z w64 c.args.by) in
    All-more (λ x. FitsSigned w64 (x +ℤ by)) (g.C.Column.items c.args.column.now) c.loop-i.i (pos 0) inside c.loop-i.invariant (subst (λ (x : ℤ). FitsSigned w64 (x +ℤ by)) (to_z-of_z w64 c.at.result (search rules) ∙ c.at.ensures) (c.sum_fits.ensures c.if-not-sum_fits.false))

pub returns : goal.returns
returns g c = λ _.
    subst (λ (by : ℤ). All (λ x. FitsSigned w64 (x +ℤ by)) (g.C.Column.items c.args.column.now)) (to_z-of_z w64 c.args.by c.ranges.by)
    (subst (λ (xs : List ℤ). All (λ x. FitsSigned w64 (x +ℤ to_z w64 (of_z w64 c.args.by))) xs) (take_all c.loop-i.i (g.C.Column.items c.args.column.now) (omega (arith, c.len-i-end.ensures.count))) c.loop-i.invariant)

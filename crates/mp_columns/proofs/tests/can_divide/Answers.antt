use Rattle.std.proofs.Common.{◌≡◌, ◌<◌, ◌∙◌, rules, All, arith, length, pos, int_rem, w64, subst, take_all, ℤ, List}
use Rattle.std.proofs.lemmas.Int.{to_z-of_z}
use Rattle.std.proofs.lemmas.List.Elements.{All-more}
use Rattle.mp_columns.proofs.tests.can_divide.Goals as goal

pub loop-i-preserved : goal.loop-i-preserved
loop-i-preserved g c =
    let inside : c.loop-i.i < length (g.C.Column.items c.args.column.now) = omega (arith, c.len-i-end.ensures.count) in
    All-more (λ x. int_rem x (pos c.args.k) ≡ pos 0) (g.C.Column.items c.args.column.now) c.loop-i.i (pos 0) inside c.loop-i.invariant (subst (λ (x : ℤ). int_rem x (pos c.args.k) ≡ pos 0) (to_z-of_z w64 c.at.result (search rules) ∙ c.at.ensures) (c.divides.ensures c.if-not-divides.false))

pub returns : goal.returns
returns g c = λ _. subst (λ (xs : List ℤ). All (λ x. int_rem x (pos c.args.k) ≡ pos 0) xs) (take_all c.loop-i.i (g.C.Column.items c.args.column.now) (omega (arith, c.len-i-end.ensures.count))) c.loop-i.invariant

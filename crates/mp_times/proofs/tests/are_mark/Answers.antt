use Rattle.std.proofs.Common.{◌<◌, ◌∙◌, rules, All, w64, arith, length, pos, subst, take_all, ℤ, List}
use Rattle.std.proofs.lemmas.Int.{to_z-of_z}
use Rattle.std.proofs.lemmas.List.Elements.{All-more}
use Rattle.mp_times.specs.Written.{IsMark}
use Rattle.mp_times.proofs.tests.are_mark.Goals as goal

pub loop-i-preserved : goal.loop-i-preserved
loop-i-preserved g c =
    let inside : c.loop-i.i < length (g.C.Column.items c.args.column.now) = omega (arith, c.len-i-end.ensures.count) in
    All-more IsMark (g.C.Column.items c.args.column.now) c.loop-i.i (pos 0) inside c.loop-i.invariant (subst IsMark (to_z-of_z w64 c.at.result (search rules) ∙ c.at.ensures) (c.is_mark.ensures c.if-not-is_mark.false))

pub returns : goal.returns
returns g c = λ _. subst (λ (xs : List ℤ). All IsMark xs) (take_all c.loop-i.i (g.C.Column.items c.args.column.now) (omega (arith, c.len-i-end.ensures.count))) c.loop-i.invariant

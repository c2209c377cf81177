use Rattle.std.proofs.Common.{◌<◌, ◌∙◌, rules, All, w64, arith, length, pos, subst, take_all, ℤ, List}
use Rattle.std.proofs.lemmas.Int.{to_z-of_z}
use Rattle.std.proofs.lemmas.List.Elements.{All-more}
use Rattle.std.specs.Int.{w32, FitsUnsigned}
use Rattle.mp_times.proofs.tests.are_unsigned.Goals as goal

pub loop-i-preserved : goal.loop-i-preserved
loop-i-preserved g c =
    let inside : c.loop-i.i < length (g.C.Column.items c.args.column.now) = omega (arith, c.len-i-end.ensures.count) in
    All-more (FitsUnsigned w32) (g.C.Column.items c.args.column.now) c.loop-i.i (pos 0) inside c.loop-i.invariant (subst (FitsUnsigned w32) (to_z-of_z w64 c.at.result (search rules) ∙ c.at.ensures) (c.is_unsigned.ensures c.if-not-is_unsigned.false))

pub returns : goal.returns
returns g c = λ _. subst (λ (xs : List ℤ). All (FitsUnsigned w32) xs) (take_all c.loop-i.i (g.C.Column.items c.args.column.now) (omega (arith, c.len-i-end.ensures.count))) c.loop-i.invariant

use Rattle.std.proofs.Common.{rules, ◌≡◌, ◌<◌, ◌/◌, ◌%◌, ◌^◌, ℤ, to_z, of_z, pos, ◌+ℤ◌, ap, ◌∙◌, arith, length, List, map, All, FitsSigned, w64, subst, sym}
use Rattle.std.proofs.lemmas.Int.{to_z-of_z}
use Rattle.cut_op.proofs.MovedOffsets.{all_moved, few_ticks, first_fits, second_fits, third_fits}
use Rattle.cut_op.proofs.apply.move_offsets.Goals as goal

pub whole_ticks-ticks-requires-clause-few : goal.whole_ticks-ticks-requires-clause-few
whole_ticks-ticks-requires-clause-few c =
    few_ticks c.args.factor c.args.ahead c.requires.some (omega arith) c.args.offsets.now c.requires.old c.requires.fit (omega (arith, c.if-len-eq0.false, c.len.ensures.count))

pub shift_by-requires : goal.shift_by-requires
shift_by-requires c =
    let ticks_is : to_z w64 (of_z w64 c.whole_ticks-ticks.result) ≡ pos (c.args.ahead / c.args.factor) = to_z-of_z w64 c.whole_ticks-ticks.result (search rules) ∙ c.whole_ticks-ticks.ensures in
    subst (λ (z : ℤ). All (λ x. FitsSigned w64 (x +ℤ z)) c.args.offsets.now) (sym ticks_is)
    (first_fits c.args.factor c.args.ahead c.requires.some (omega arith) c.args.offsets.now c.requires.old c.requires.fit)

pub scale_by-requires : goal.scale_by-requires
scale_by-requires c =
    let ticks_is : to_z w64 (of_z w64 c.whole_ticks-ticks.result) ≡ pos (c.args.ahead / c.args.factor) = to_z-of_z w64 c.whole_ticks-ticks.result (search rules) ∙ c.whole_ticks-ticks.ensures in
    second_fits c.args.factor c.args.ahead c.requires.some (omega arith) c.args.offsets.now c.requires.old c.requires.fit c.shift_by.new.self
    (c.shift_by.ensures ∙ ap (λ (z : ℤ). map (λ x. x +ℤ z) c.args.offsets.now) ticks_is)

pub shift_by-requires-2 : goal.shift_by-requires-2
shift_by-requires-2 c =
    let ticks_is : to_z w64 (of_z w64 c.whole_ticks-ticks.result) ≡ pos (c.args.ahead / c.args.factor) = to_z-of_z w64 c.whole_ticks-ticks.result (search rules) ∙ c.whole_ticks-ticks.ensures in
    let rest_is : to_z w64 (of_z w64 c.parts_left-rest.result) ≡ pos (c.args.ahead % c.args.factor) = to_z-of_z w64 c.parts_left-rest.result (search rules) ∙ c.parts_left-rest.ensures in
    subst (λ (z : ℤ). All (λ x. FitsSigned w64 (x +ℤ z)) c.scale_by.new.self) (sym rest_is)
    (third_fits c.args.factor c.args.ahead c.requires.some (omega arith) c.args.offsets.now c.requires.old c.requires.fit c.shift_by.new.self c.scale_by.new.self
    (c.shift_by.ensures ∙ ap (λ (z : ℤ). map (λ x. x +ℤ z) c.args.offsets.now) ticks_is) c.scale_by.ensures)

pub returns : goal.returns
returns c =
    let ticks_is : to_z w64 (of_z w64 c.whole_ticks-ticks.result) ≡ pos (c.args.ahead / c.args.factor) = to_z-of_z w64 c.whole_ticks-ticks.result (search rules) ∙ c.whole_ticks-ticks.ensures in
    let rest_is : to_z w64 (of_z w64 c.parts_left-rest.result) ≡ pos (c.args.ahead % c.args.factor) = to_z-of_z w64 c.parts_left-rest.result (search rules) ∙ c.parts_left-rest.ensures in
    all_moved c.args.factor c.args.ahead c.requires.some (omega arith) c.args.offsets.now c.shift_by.new.self c.scale_by.new.self c.shift_by-2.new.self
    (c.shift_by.ensures ∙ ap (λ (z : ℤ). map (λ x. x +ℤ z) c.args.offsets.now) ticks_is) c.scale_by.ensures
    (c.shift_by-2.ensures ∙ ap (λ (z : ℤ). map (λ x. x +ℤ z) c.scale_by.new.self) rest_is)

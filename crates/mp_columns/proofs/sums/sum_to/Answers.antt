use Rattle.std.proofs.Common.{rules, ◌≡◌, ◌-◌, ◌<◌, length, pos, ℤ, None, ◌+ℤ◌, ◌*ℤ◌, FitsSigned, w64, to_z, of_z, arith, sym, ap, subst, ◌∙◌}
use Rattle.std.specs.Int.{w128}
use Rattle.std.proofs.lemmas.Int.{ints, to_z-of_z}
use Rattle.mp_columns.specs.Kept.{IsSum, all_items, end_at, start_at, value_at}
use Rattle.mp_columns.proofs.CutAtRuns.{run_at, same_count}
use Rattle.mp_columns.proofs.ChangesOfRuns.{can_find}
use Rattle.mp_columns.proofs.Summing.{sum_more, sum_next}
use Rattle.mp_columns.proofs.sums.sum_to.Goals as goal

pub run_of-run-requires : goal.run_of-run-requires
run_of-run-requires c = record { found = can_find c.args.ends.now c.args.values.now (c.args.i - 1) c.requires.column.longest (omega (arith, c.requires.inside, c.if-i-eq0.false)) }

pub bounds-values-before : goal.bounds-values-before
bounds-values-before c = omega (arith, c.loop-before-test.true, c.run_of-run.ensures.within, same_count 0 None c.args.ends.now c.args.values.now c.requires.column.longest)

pub overflow_sub-ends : goal.overflow_sub-ends
overflow_sub-ends c =
    let ends = c.args.ends.now in
    let lt : c.loop-before.before < length ends = omega (arith, c.loop-before-test.true, c.run_of-run.ensures.within) in
    let longer = (run_at 0 None ends c.args.values.now c.loop-before.before c.requires.column.longest lt).longer in
    omega (arith, c.start_in.ensures, longer)

pub loop-before-preserved : goal.loop-before-preserved
loop-before-preserved c =
    let ends = c.args.ends.now in
    let values = c.args.values.now in
    let run = c.loop-before.before in
    let lt : run < length ends = omega (arith, c.loop-before-test.true, c.run_of-run.ensures.within) in
    let fits : FitsSigned w64 (value_at values run) = search rules in
    let is : to_z w128 (of_z w128 c.add_run-sum.result) ≡ (to_z w128 c.loop-before.sum-bits) +ℤ (value_at values run *ℤ pos (end_at ends run - c.start_in.result)) =
    to_z-of_z w128 c.add_run-sum.result (search rules) ∙ (c.add_run-sum.ensures ∙ ap (λ (x : ℤ). (to_z w128 c.loop-before.sum-bits) +ℤ (x *ℤ pos (end_at ends run - c.start_in.result))) (to_z-of_z w64 (value_at values run) fits)) in
    sum_next ends values run c.start_in.result (to_z w128 c.loop-before.sum-bits) _ c.requires.column.longest lt fits c.start_in.ensures c.loop-before.invariant is

pub bounds-values-run : goal.bounds-values-run
bounds-values-run c = omega (arith, c.run_of-run.ensures.within, same_count 0 None c.args.ends.now c.args.values.now c.requires.column.longest)

pub returns : goal.returns
returns c =
    let ends = c.args.ends.now in
    let values = c.args.values.now in
    let run = c.run_of-run.result in
    let lt : run < length ends = c.run_of-run.ensures.within in
    let fits : FitsSigned w64 (value_at values run) = search rules in
    let at_run : c.loop-before.before ≡ run = omega (arith, c.loop-before-test.false, c.loop-before.auto.before) in
    let so_far : IsSum (all_items ends values) (start_at ends run) (to_z w128 c.loop-before.sum-bits) = subst (λ n. IsSum (all_items ends values) (start_at ends n) (to_z w128 c.loop-before.sum-bits)) at_run c.loop-before.invariant in
    let more = sum_more ends values run c.args.i (to_z w128 c.loop-before.sum-bits) c.requires.column.longest lt fits (omega (arith, c.run_of-run.ensures.begun, c.if-i-eq0.false)) (omega (arith, c.run_of-run.ensures.holds, c.if-i-eq0.false)) so_far in
    let is : to_z w128 (of_z w128 c.add_run.result) ≡ (to_z w128 c.loop-before.sum-bits) +ℤ (value_at values run *ℤ pos (c.args.i - start_at ends run)) =
    grind (arith, ints, to_z-of_z, fits, c.add_run.ensures, c.start_in-2.ensures) in
    subst (λ (x : ℤ). IsSum (all_items ends values) c.args.i x) (sym is) more

use Rattle.std.proofs.Common.{rules, ◌≡◌, ◌-◌, ◌<◌, length, pos, ℤ, None, ◌+ℤ◌, ◌*ℤ◌, FitsSigned, w64, to_z, of_z, arith, ap, ◌∙◌}
use Rattle.std.specs.Int.{w128}
use Rattle.std.proofs.lemmas.Int.{to_z-of_z}
use Rattle.mp_columns.specs.Kept.{all_items, end_at, value_at}
use Rattle.mp_columns.proofs.CutAtRuns.{run_at, same_count}
use Rattle.mp_columns.proofs.ChangesOfSums.{sum_written, sum_not_written}
use Rattle.mp_columns.proofs.Summing.{sum_next}
use Rattle.mp_columns.proofs.sums.fill_sums.Goals.{then-run-eq0, else-run-eq0}
use Rattle.mp_columns.proofs.sums.fill_sums.Goals as goal

pub bounds-values-run : goal.bounds-values-run
bounds-values-run c = omega (arith, c.loop-run-test.true, same_count 0 None c.args.ends.now c.args.values.now c.requires.longest)

pub overflow_sub-ends : goal.overflow_sub-ends
overflow_sub-ends c =
    let longer = (run_at 0 None c.args.ends.now c.args.values.now c.loop-run.run c.requires.longest c.loop-run-test.true).longer in
    omega (arith, c.start_in.ensures, longer)

pub loop-run-preserved : goal.loop-run-preserved
loop-run-preserved c =
    let ends = c.args.ends.now in
    let values = c.args.values.now in
    let run = c.loop-run.run in
    let sum = to_z w128 c.loop-run.sum-bits in
    let lt : run < length ends = c.loop-run-test.true in
    let fits : FitsSigned w64 (value_at values run) = search rules in
    let is : to_z w128 (of_z w128 c.add_run-sum.result) ≡ sum +ℤ (value_at values run *ℤ pos (end_at ends run - c.start_in.result)) =
    to_z-of_z w128 c.add_run-sum.result (search rules) ∙ (c.add_run-sum.ensures ∙ ap (λ (x : ℤ). sum +ℤ (x *ℤ pos (end_at ends run - c.start_in.result))) (to_z-of_z w64 (value_at values run) fits)) in
    record {
      count = search rules;
      so_far = sum_next ends values run c.start_in.result sum _ c.requires.longest lt fits c.start_in.ensures c.loop-run.invariant.so_far is;
      each = elim c.if-run-eq0.branch [
        | then-run-eq0 w ↦ rw w.sums-is (sum_written run ends (all_items ends values) c.loop-run.sums sum w.if-run-eq0.true (omega (arith, lt, c.loop-run.invariant.count)) c.loop-run.invariant.so_far c.loop-run.invariant.each)
        | else-run-eq0 w ↦ rw w.sums-is (sum_not_written run ends (all_items ends values) c.loop-run.sums w.if-run-eq0.false c.loop-run.invariant.each)
      ];
    }

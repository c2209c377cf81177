use Rattle.std.proofs.Common.{rules, arith, ◌<◌, ◌*◌, ℕ, ℤ, pos, ◌+ℤ◌, ◌*ℤ◌, length, w64, to_z, of_z, ◌∙◌}
use Rattle.std.proofs.lemmas.List.{length-set, get_or-set_other}
use Rattle.mp_columns.specs.Kept.{start_at}
use Rattle.mp_columns.proofs.SumsOfChanges.{one_replaced}
use Rattle.mp_columns.proofs.sums.shift_sums.Goals as goal

pub loop-at-preserved : goal.loop-at-preserved
loop-at-preserved c =
    let old = c.args.sums.now in
    let now = c.loop-at.sums in
    let at = c.loop-at.at in
    let f = λ (i : ℕ) (x : ℤ). x +ℤ (to_z w64 (of_z w64 c.args.by) *ℤ pos (start_at c.args.ends.now (16 * i))) in
    let inside : at < length now = search rules in
    record {
      count = length-set now at _ ∙ c.loop-at.invariant.count;
      done = one_replaced f old now at _ inside (search rules) c.loop-at.invariant.done;
      left = λ i le. get_or-set_other now at i _ (pos 0) (λ e. omega (arith, e, le)) ∙ c.loop-at.invariant.left i (omega (arith, le));
    }

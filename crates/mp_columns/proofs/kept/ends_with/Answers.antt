use Rattle.std.proofs.Common.{rules, arith, ◌-◌, ◌∙◌, length, get_or, pos, ℤ, None, Some, FitsSigned, w64, of_z, sym, ap}
use Rattle.mp_columns.proofs.ChangesOfRuns.{some_same}
use Rattle.mp_columns.proofs.LastOfRuns.{last_is, told_other, told_same}
use Rattle.mp_columns.proofs.LongestRuns.{same_items}
use Rattle.mp_columns.proofs.kept.ends_with.Goals as goal

pub returns-then-count-gt0-clause-yes : goal.returns-then-count-gt0-clause-yes
returns-then-count-gt0-clause-yes c = λ same.
    let values = c.args.values.now in
    let last = get_or values (length values - 1) (pos 0) in
    let fits : FitsSigned w64 last = search rules in
    last_is None values (length values - 1) (pos 0) (omega (arith, c.if-count-gt0.true))
    ∙ ap (λ (x : ℤ). Some x) (same_items last c.args.value fits c.ranges.value (told_same (of_z w64 last) (of_z w64 c.args.value) same))

pub returns-then-count-gt0-clause-no : goal.returns-then-count-gt0-clause-no
returns-then-count-gt0-clause-no c = λ other e.
    let values = c.args.values.now in
    let last = get_or values (length values - 1) (pos 0) in
    told_other (of_z w64 last) (of_z w64 c.args.value) other
    (ap (of_z w64) (some_same last c.args.value (sym (last_is None values (length values - 1) (pos 0) (omega (arith, c.if-count-gt0.true))) ∙ e)))

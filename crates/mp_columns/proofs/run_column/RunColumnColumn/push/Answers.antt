use Rattle.std.proofs.Common.{ℤ, w64, None, Some, sym, ap, ◌∙◌}
use Rattle.std.proofs.lemmas.Int.{to_z-of_z}
use Rattle.std.specs.List.{last_or}
use Rattle.mp_columns.proofs.LastOfRuns.{last-items}
use Rattle.mp_columns.proofs.run_column.RunColumnColumn.push.Goals as goal

pub returns-clause-same : goal.returns-clause-same
returns-clause-same c = λ same.
    let ends = c.self.inside.kept.ends.items in
    let values = c.self.inside.kept.values.items in
    c.push.ensures.same (sym (last-items ends values c.self.invariant.longest) ∙ (ap (last_or None) c.self.view_is ∙ (same ∙ ap (λ (x : ℤ). Some x) (sym (to_z-of_z w64 c.args.value c.ranges.value)))))

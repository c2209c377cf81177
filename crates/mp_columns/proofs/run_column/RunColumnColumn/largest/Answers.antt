use Rattle.std.proofs.Common.{sym, ap, ◌∙◌}
use Rattle.mp_columns.specs.Numbers.{largest}
use Rattle.mp_columns.proofs.ValuesOfRuns.{largest-items}
use Rattle.mp_columns.proofs.run_column.RunColumnColumn.largest.Goals as goal

pub returns : goal.returns
returns c =
    let ends = c.self.inside.kept.ends.items in
    let values = c.self.inside.kept.values.items in
    c.largest_of.ensures ∙ (ap largest c.deref.ensures.value ∙ (sym (largest-items ends values c.self.invariant.longest) ∙ ap largest c.self.view_is))

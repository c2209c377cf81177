use Rattle.std.proofs.Common.{rules, arith, ◌≡◌, length, sym, ap, ◌∙◌}
use Rattle.mp_columns.specs.Kept.{start_at}
use Rattle.mp_columns.proofs.ChangesOfRuns.{length-items}
use Rattle.mp_columns.proofs.run_column.RunColumnColumn.len.Goals as goal

pub returns-clause-count : goal.returns-clause-count
returns-clause-count c =
    let ends = c.self.inside.kept.ends.items in
    let values = c.self.inside.kept.values.items in
    let len : c.items_in.result ≡ start_at ends (length ends) = search rules in
    len ∙ (sym (length-items ends values c.self.invariant.longest) ∙ ap length c.self.view_is)

pub returns-clause-most : goal.returns-clause-most
returns-clause-most c =
    let ends = c.self.inside.kept.ends.items in
    let values = c.self.inside.kept.values.items in
    let len : c.items_in.result ≡ start_at ends (length ends) = search rules in
    omega (arith, len, length-items ends values c.self.invariant.longest, c.self.invariant.few)

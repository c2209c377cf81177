use Rattle.std.proofs.Common.{ℤ, map, pos, ◌*ℤ◌, int_div, ap, ◌∙◌}
use Rattle.mp_columns.proofs.Mapping.{quotients_times}
use Rattle.mp_columns.proofs.run_column.RunColumnColumn.divide_by.Goals as goal

pub returns-clause-exact : goal.returns-clause-exact
returns-clause-exact c =
    let times = map (λ (x : ℤ). x *ℤ pos c.args.k) in
    let quotients = map (λ (x : ℤ). int_div x (pos c.args.k)) in
    ap times (c.divide_by.ensures.items ∙ ap quotients c.self.view_is) ∙ quotients_times c.args.k c.args.self.now c.requires.whole

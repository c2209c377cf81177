use Rattle.std.proofs.Common.{drop, ap, ◌∙◌}
use Rattle.mp_columns.specs.Kept.{all_items}
use Rattle.mp_columns.proofs.ChangesOfRuns.{range_is}
use Rattle.mp_columns.proofs.kept.Kept.keep_range.Goals as goal

pub returns-clause-items : goal.returns-clause-items
returns-clause-items c =
    c.sum_up.ensures.items
    ∙ (c.drop_first.ensures.runs.1
    ∙ (ap (drop c.args.from) c.keep_first.ensures.1 ∙ range_is (all_items c.args.self.now.ends.items c.args.self.now.values.items) c.args.from c.args.to c.requires.order))

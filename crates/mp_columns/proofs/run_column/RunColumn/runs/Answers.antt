use Rattle.std.proofs.Common.{arith, ◌≡◌, ℤ, List, length, sym, ap, ◌∙◌}
use Rattle.mp_columns.specs.Runs.{runs}
use Rattle.mp_columns.proofs.ChangesOfRuns.{runs_within}
use Rattle.mp_columns.proofs.RunsAreKept.{length-runs}
use Rattle.mp_columns.proofs.run_column.RunColumn.runs.Goals as goal

pub overflow_cast-result : goal.overflow_cast-result
overflow_cast-result c =
    let ends = c.self.inside.kept.ends.items in
    let values = c.self.inside.kept.values.items in
    let count : c.len.result ≡ length ends = c.len.ensures ∙ c.self.inside.kept.ends.ok.0 in
    record { fits = omega (arith, count, runs_within ends values c.self.invariant.longest, c.self.invariant.few) }

pub returns : goal.returns
returns c =
    let ends = c.self.inside.kept.ends.items in
    let values = c.self.inside.kept.values.items in
    c.len.ensures ∙ (c.self.inside.kept.ends.ok.0 ∙ (sym (length-runs ends values c.self.invariant.longest) ∙ ap (λ (xs : List ℤ). length (runs xs)) c.self.view_is))

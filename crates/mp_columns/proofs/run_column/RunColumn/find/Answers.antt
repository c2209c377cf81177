use Rattle.std.proofs.Common.{rules, arith, ◌≡◌, ◌-◌, ◌<◌, ◌≤◌, ◌*◌, ◌^◌, ℤ, List, length, sym, ap, subst, ◌∙◌}
use Rattle.mp_columns.specs.Kept.{end_at, start_at}
use Rattle.mp_columns.specs.Runs.{HoldsItem, runs}
use Rattle.mp_columns.proofs.ChangesOfRuns.{can_find, runs_within}
use Rattle.mp_columns.proofs.RunsAreKept.{digits_of_steps, holds_item, length-runs}
use Rattle.mp_columns.proofs.run_column.RunColumn.find.Goals as goal

pub find_in-requires : goal.find_in-requires
find_in-requires g c =
    let ends = c.self.inside.kept.ends.items in
    let values = c.self.inside.kept.values.items in
    rw c.deref.ensures.value (can_find ends values c.args.i c.self.invariant.longest (subst (λ (xs : List ℤ). c.args.i < length xs) (sym c.self.view_is) c.requires))

pub overflow_cast-result : goal.overflow_cast-result
overflow_cast-result g c =
    let ends = c.self.inside.kept.ends.items in
    let values = c.self.inside.kept.values.items in
    let within : c.find_in.result < length ends = search rules in
    record { fits = omega (arith, within, runs_within ends values c.self.invariant.longest, c.self.invariant.few) }

pub returns-clause-holds : goal.returns-clause-holds
returns-clause-holds g c =
    let ends = c.self.inside.kept.ends.items in
    let values = c.self.inside.kept.values.items in
    let run = c.find_in.result in
    let within : run < length ends = search rules in
    let begun : start_at ends run ≤ c.args.i = search rules in
    let holds : c.args.i < end_at ends run = search rules in
    subst (λ (xs : List ℤ). HoldsItem xs run c.args.i) c.self.view_is (holds_item ends values run c.args.i c.self.invariant.longest within begun holds)

pub returns-clause-cost : goal.returns-clause-cost
returns-clause-cost g c = λ digits few.
    let ends = c.self.inside.kept.ends.items in
    let values = c.self.inside.kept.values.items in
    let steps = c.find_in.new.steps - c.args.steps.now in
    let cost : 2 ^ steps ≤ 4 * length ends = search rules in
    let count : length (runs c.args.self.now) ≡ length ends = ap (λ (xs : List ℤ). length (runs xs)) (sym c.self.view_is) ∙ length-runs ends values c.self.invariant.longest in
    digits_of_steps steps (length ends) digits cost (omega (arith, few, count))

use Rattle.std.proofs.Common.{rules, arith, ◌<◌, ℤ, List, length, sym, subst}
use Rattle.mp_columns.specs.Runs.{IsLongestRun}
use Rattle.mp_columns.proofs.ChangesOfRuns.{can_find, runs_within}
use Rattle.mp_columns.proofs.LongestRuns.{longest_is_first}
use Rattle.mp_columns.proofs.run_column.RunColumnColumn.next_run.Goals as goal

pub run_near-run-requires : goal.run_near-run-requires
run_near-run-requires c =
    let ends = c.self.inside.kept.ends.items in
    let values = c.self.inside.kept.values.items in
    let inside : c.place-from.result < length c.args.self.now = omega (arith, c.if-from-len.false, c.len.ensures.count, c.place-from.ensures, c.requires) in
    rw c.deref.ensures.value (record { found = can_find ends values c.place-from.result c.self.invariant.longest (subst (λ (xs : List ℤ). c.place-from.result < length xs) (sym c.self.view_is) inside) })

pub overflow_cast-run : goal.overflow_cast-run
overflow_cast-run c =
    let ends = c.self.inside.kept.ends.items in
    let values = c.self.inside.kept.values.items in
    let within : c.run_near-run.result < length ends = search rules in
    record { fits = omega (arith, within, runs_within ends values c.self.invariant.longest, c.self.invariant.few) }

pub returns-clause-next : goal.returns-clause-next
returns-clause-next c = subst (λ (xs : List ℤ). IsLongestRun xs c.args.cursor.now c.near.result c.rest_of-rest.result) c.self.view_is (search rules)

pub returns-clause-first : goal.returns-clause-first
returns-clause-first c =
    longest_is_first c.args.self.now c.args.cursor.now c.near.result c.rest_of-rest.result
    (subst (λ (xs : List ℤ). IsLongestRun xs c.args.cursor.now c.near.result c.rest_of-rest.result) c.self.view_is (search rules))

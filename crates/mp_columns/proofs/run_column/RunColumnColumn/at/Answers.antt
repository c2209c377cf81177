use Rattle.std.proofs.Common.{rules, arith, ◌≡◌, ◌<◌, ◌≤◌, ℤ, List, length, get_or, pos, w64, None, sym, ap, subst, ◌∙◌}
use Rattle.std.proofs.lemmas.Int.{to_z-of_z}
use Rattle.std.proofs.lemmas.List.{get_or_default}
use Rattle.mp_columns.specs.Kept.{end_at, start_at, value_at}
use Rattle.mp_columns.proofs.ChangesOfRuns.{can_find}
use Rattle.mp_columns.proofs.CutAtRuns.{same_count}
use Rattle.mp_columns.proofs.ValuesOfRuns.{item_at}
use Rattle.mp_columns.proofs.run_column.RunColumnColumn.at.Goals as goal

pub run_of-requires : goal.run_of-requires
run_of-requires c =
    let ends = c.self.inside.kept.ends.items in
    let values = c.self.inside.kept.values.items in
    rw c.deref.ensures.value (record { found = can_find ends values c.args.i c.self.invariant.longest (subst (λ (xs : List ℤ). c.args.i < length xs) (sym c.self.view_is) c.requires) })

pub index-requires : goal.index-requires
index-requires c =
    let ends = c.self.inside.kept.ends.items in
    let values = c.self.inside.kept.values.items in
    let within : c.run_of.result < length ends = search rules in
    omega (arith, within, same_count 0 None ends values c.self.invariant.longest, c.self.inside.kept.values.ok.0)

pub returns : goal.returns
returns c =
    let ends = c.self.inside.kept.ends.items in
    let values = c.self.inside.kept.values.items in
    let run = c.run_of.result in
    let within : run < length ends = search rules in
    let begun : start_at ends run ≤ c.args.i = search rules in
    let holds : c.args.i < end_at ends run = search rules in
    let is : c.index.result.now ≡ value_at values run = c.index.ensures ∙ get_or_default values run c.index.result.now (pos 0) (omega (arith, within, same_count 0 None ends values c.self.invariant.longest)) in
    to_z-of_z w64 c.index.result.now (search rules)
    ∙ (is
    ∙ (sym (item_at ends values run c.args.i (pos 0) c.self.invariant.longest within begun holds) ∙ ap (λ (xs : List ℤ). get_or xs c.args.i (pos 0)) c.self.view_is))

use Rattle.std.proofs.Common.{rules, arith, ◌≡◌, ◌-◌, ◌<◌, ◌≤◌, ℕ, List, length, map, drop, sym, subst, ◌∙◌, None, All}
use Rattle.std.specs.Vec.{with_items}
use Rattle.mp_columns.specs.Kept.{end_at, start_at}
use Rattle.mp_columns.proofs.ChangesOfRuns.{can_find, cut_before, ends_from, range_to_end}
use Rattle.mp_columns.proofs.CutAtRuns.{same_count}
use Rattle.mp_columns.proofs.Mapping.{written_back}
use Rattle.mp_columns.proofs.kept.Kept.drop_first.Goals as goal

pub run_of-run-requires : goal.run_of-run-requires
run_of-run-requires c =
    rw c.deref.ensures.value (record { found = can_find c.args.self.now.ends.items c.args.self.now.values.items c.args.from c.requires.longest c.requires.inside })

pub keep-requires-2-clause-inside : goal.keep-requires-2-clause-inside
keep-requires-2-clause-inside c = omega (arith, c.len-runs.ensures, c.args.self.now.ends.ok.0, same_count 0 None c.args.self.now.ends.items c.args.self.now.values.items c.requires.longest)

pub lower_each-requires : goal.lower_each-requires
lower_each-requires c =
    let ends = c.args.self.now.ends.items in
    let run = c.run_of-run.result in
    let within : run < length ends = search rules in
    let begun : start_at ends run ≤ c.args.from = search rules in
    let holds : c.args.from < end_at ends run = search rules in
    let runs : c.len-runs.result ≡ length ends = c.len-runs.ensures ∙ c.args.self.now.ends.ok.0 in
    let left : c.keep.new.items.items ≡ drop run ends = c.keep.ensures ∙ range_to_end ends run c.len-runs.result runs in
    rw c.deref_mut.ensures.value (subst (λ (xs : List ℕ). All (λ end. c.args.from ≤ end) xs) (sym left) (ends_from ends c.args.self.now.values.items run c.args.from c.requires.longest within begun holds))

pub returns-clause-runs : goal.returns-clause-runs
returns-clause-runs c =
    let ends = c.args.self.now.ends.items in
    let values = c.args.self.now.values.items in
    let run = c.run_of-run.result in
    let within : run < length ends = search rules in
    let begun : start_at ends run ≤ c.args.from = search rules in
    let holds : c.args.from < end_at ends run = search rules in
    let count = same_count 0 None ends values c.requires.longest in
    let runs : c.len-runs.result ≡ length ends = c.len-runs.ensures ∙ c.args.self.now.ends.ok.0 in
    let left : c.keep.new.items.items ≡ drop run ends = c.keep.ensures ∙ range_to_end ends run c.len-runs.result runs in
    let values_are : c.keep-2.new.items.items ≡ drop run values = c.keep-2.ensures ∙ range_to_end values run c.len-runs.result (runs ∙ count) in
    let lower : (with_items c.keep.new.items c.lower_each.new.numbers).items ≡ map (λ end. end - c.args.from) c.keep.new.items.items = written_back (λ end. end - c.args.from) c.keep.new.items c.deref_mut.result.now c.lower_each.new.numbers c.deref_mut.ensures.value c.lower_each.ensures in
    rw (lower, left, values_are) (cut_before ends values run c.args.from c.requires.longest within begun holds)

use Rattle.std.proofs.Common.{◌≡◌, ℤ, map, pos, int_div, int_rem, None}
use Rattle.std.specs.Vec.{with_items}
use Rattle.mp_columns.proofs.ChangesOfRuns.{divided, divided_column}
use Rattle.mp_columns.proofs.CutAtRuns.{same_count}
use Rattle.mp_columns.proofs.Mapping.{written_back}
use Rattle.mp_columns.proofs.ValuesOfRuns.{values_all}
use Rattle.mp_columns.proofs.kept.Kept.divide_by.Goals as goal

pub divide_each-requires-clause-whole : goal.divide_each-requires-clause-whole
divide_each-requires-clause-whole c =
    let ends = c.args.self.now.ends.items in
    let values = c.args.self.now.values.items in
    let longest = c.requires.column.longest in
    rw c.deref_mut.ensures.value (values_all (λ x. int_rem x (pos c.args.k) ≡ pos 0) ends values longest (same_count 0 None ends values longest) c.requires.whole)

pub returns-clause-column : goal.returns-clause-column
returns-clause-column c =
    let f = λ (x : ℤ). int_div x (pos c.args.k) in
    let old = c.args.self.now in
    let now : (with_items old.values c.divide_each.new.items).items ≡ map f old.values.items = written_back f old.values c.deref_mut.result.now c.divide_each.new.items c.deref_mut.ensures.value c.divide_each.ensures.quotients in
    let later : (with_items old.sums c.divide_sums.new.sums).items ≡ map f old.sums.items = written_back f old.sums c.deref_mut-2.result.now c.divide_sums.new.sums c.deref_mut-2.ensures.value c.divide_sums.ensures in
    divided_column c.args.k old.ends.items old.values.items _ old.sums.items _ c.requires.some c.requires.column c.requires.whole now later

pub returns-clause-items : goal.returns-clause-items
returns-clause-items c =
    let f = λ (x : ℤ). int_div x (pos c.args.k) in
    let old = c.args.self.now in
    let now : (with_items old.values c.divide_each.new.items).items ≡ map f old.values.items = written_back f old.values c.deref_mut.result.now c.divide_each.new.items c.deref_mut.ensures.value c.divide_each.ensures.quotients in
    (divided c.args.k old.ends.items old.values.items _ old.sums.items c.requires.column c.requires.whole now).items

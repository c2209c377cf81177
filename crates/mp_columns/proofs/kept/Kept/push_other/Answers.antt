use Rattle.std.proofs.Common.{rules, arith, ◌≡◌, ◌+◌, [], ◌∷◌, length, ◌++◌}
use Rattle.mp_columns.specs.Kept.{AreSums, all_items, start_at}
use Rattle.mp_columns.proofs.ChangesOfRuns.{follows, length-items}
use Rattle.mp_columns.proofs.kept.Kept.push_other.Goals as goal

pub overflow_add-end : goal.overflow_add-end
overflow_add-end c =
    let ends = c.args.self.now.ends.items in
    let len : c.items_in.result ≡ start_at ends (length ends) = search rules in
    record { fits = omega (arith, len, length-items ends c.args.self.now.values.items c.requires.column.longest, c.requires.room) }

pub returns-clause-column : goal.returns-clause-column
returns-clause-column c =
    let ends = c.args.self.now.ends.items in
    let values = c.args.self.now.values.items in
    let due : AreSums (length ends + 1) ends (all_items ends values) c.push_sum.new.sums.items = search rules in
    let ends_are : c.push.new.self.items ≡ ends ++ (start_at ends (length ends) + c.args.count) ∷ [] = search rules in
    let values_are : c.push-2.new.self.items ≡ values ++ c.args.value ∷ [] = search rules in
    rw (ends_are, values_are) (follows ends values c.args.self.now.sums.items c.push_sum.new.sums.items c.args.count c.args.value c.requires.column due c.requires.some c.requires.other c.requires.room).0

pub returns-clause-ok : goal.returns-clause-ok
returns-clause-ok c =
    let ends = c.args.self.now.ends.items in
    let values = c.args.self.now.values.items in
    let due : AreSums (length ends + 1) ends (all_items ends values) c.push_sum.new.sums.items = search rules in
    let ends_are : c.push.new.self.items ≡ ends ++ (start_at ends (length ends) + c.args.count) ∷ [] = search rules in
    let values_are : c.push-2.new.self.items ≡ values ++ c.args.value ∷ [] = search rules in
    rw (ends_are, values_are) (follows ends values c.args.self.now.sums.items c.push_sum.new.sums.items c.args.count c.args.value c.requires.column due c.requires.some c.requires.other c.requires.room).1

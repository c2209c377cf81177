use Rattle.std.proofs.Common.{rules, [], ◌∷◌, ◌++◌, ◌≡◌, ◌*◌, ◌/◌, length, None, arith, subst}
use Rattle.mp_columns.specs.Kept.{IsSum, all_items, start_at}
use Rattle.mp_columns.proofs.CutAtRuns.{length-from}
use Rattle.mp_columns.proofs.ChangesOfSums.{sum_pushed}
use Rattle.mp_columns.proofs.sums.push_sum.Goals as goal

pub sum_to-sum-requires-clause-inside : goal.sum_to-sum-requires-clause-inside
sum_to-sum-requires-clause-inside c = omega (arith, c.items_in.ensures, length-from 0 None c.args.ends.now c.args.values.now c.requires.longest)

pub returns-clause-ok : goal.returns-clause-ok
returns-clause-ok c =
    let ends = c.args.ends.now in
    let items = all_items ends c.args.values.now in
    let whole : length ends ≡ 16 * (length ends / 16) = omega (arith, c.if-ends-ne0.false) in
    let sum : IsSum items (start_at ends (length ends)) c.sum_to-sum.result = subst (λ n. IsSum items n c.sum_to-sum.result) c.items_in.ensures c.sum_to-sum.ensures in
    let stored : c.push.new.self.items ≡ c.args.sums.now.items ++ c.sum_to-sum.result ∷ [] = search rules in
    rw stored (sum_pushed (length ends) ends items c.args.sums.now.items c.sum_to-sum.result whole sum c.requires.sums)

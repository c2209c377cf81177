use Rattle.std.proofs.Common.{arith, ◌≡◌, ◌+◌, ◌-◌, suc, ℕ, length, set, sym, subst, ◌∙◌, None, replicate, ◌++◌}
use Rattle.std.proofs.lemmas.List.{get_or_default}
use Rattle.mp_columns.specs.Kept.{IsColumn, all_items, end_at}
use Rattle.mp_columns.proofs.ChangesOfRuns.{grows, last_end_is}
use Rattle.mp_columns.proofs.CutAtRuns.{same_count}
use Rattle.mp_columns.proofs.LastOfRuns.{some_last}
use Rattle.mp_columns.proofs.kept.Kept.grow_last.Goals as goal

pub overflow_add-index_mut : goal.overflow_add-index_mut
overflow_add-index_mut c =
    let ends = c.args.self.now.ends.items in
    let values = c.args.self.now.values.items in
    let some = some_last values c.args.value c.requires.last in
    let count = same_count 0 None ends values c.requires.column.longest in
    let last : suc (c.len-last.result - 1) ≡ length ends = omega (arith, c.len-last.ensures, some, count) in
    let was : c.index_mut.result.now ≡ end_at ends (c.len-last.result - 1) = c.index_mut.ensures.value ∙ get_or_default ends (c.len-last.result - 1) c.index_mut.result.now 0 (omega (arith, last)) in
    let end = last_end_is ends values (c.len-last.result - 1) c.requires.column.longest last in
    record { fits = omega (arith, was, end, c.requires.room) }

pub returns : goal.returns
returns c =
    let ends = c.args.self.now.ends.items in
    let values = c.args.self.now.values.items in
    let sums = c.args.self.now.sums.items in
    let some = some_last values c.args.value c.requires.last in
    let count = same_count 0 None ends values c.requires.column.longest in
    let last : suc (c.len-last.result - 1) ≡ length ends = omega (arith, c.len-last.ensures, some, count) in
    let was : c.index_mut.result.now ≡ end_at ends (c.len-last.result - 1) = c.index_mut.ensures.value ∙ get_or_default ends (c.len-last.result - 1) c.index_mut.result.now 0 (omega (arith, last)) in
    subst (λ (end : ℕ). IsColumn (set ends (c.len-last.result - 1) (end + c.args.count)) values sums × (all_items (set ends (c.len-last.result - 1) (end + c.args.count)) values ≡ all_items ends values ++ replicate c.args.count c.args.value)) (sym was)
    (grows ends values sums (c.len-last.result - 1) c.args.count c.args.value c.requires.column last c.requires.last c.requires.room)

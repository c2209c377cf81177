use Rattle.std.proofs.Common.{arith, ◌≡◌, ◌*◌, ◌^◌, ℕ, List, length, get_or, ap, ◌∙◌, ◌*ℤ◌, ℤ, pos, neg_ℤ, ◌≤ℤ◌, map, All, FitsSigned, w64, to_z, of_z, subst, ◌+ℤ◌, None, sym}
use Rattle.std.proofs.lemmas.Int.{to_z-of_z}
use Rattle.std.proofs.lemmas.List.{with_items_is}
use Rattle.mp_columns.specs.Kept.{start_at}
use Rattle.std.specs.Vec.{with_items}
use Rattle.mp_columns.proofs.ChangesOfRuns.{kept_sum, shifted, shifted_column}
use Rattle.mp_columns.proofs.CutAtRuns.{same_count}
use Rattle.mp_columns.proofs.Mapping.{written_back}
use Rattle.mp_columns.proofs.SumsOfChanges.{sum_high, sum_low}
use Rattle.mp_columns.proofs.ValuesOfRuns.{values_all}
use Rattle.mp_columns.proofs.kept.Kept.shift_by.Goals as goal

pub shift_each-requires : goal.shift_each-requires
shift_each-requires c =
    let ends = c.args.self.now.ends.items in
    let values = c.args.self.now.values.items in
    let longest = c.requires.column.longest in
    rw c.deref_mut.ensures.value (subst (λ (n : ℤ). All (λ x. FitsSigned w64 (x +ℤ n)) values) (sym (to_z-of_z w64 c.args.by c.ranges.by)) (values_all (λ x. FitsSigned w64 (x +ℤ c.args.by)) ends values longest (same_count 0 None ends values longest) c.requires.fits))

pub shift_sums-requires-clause-count : goal.shift_sums-requires-clause-count
shift_sums-requires-clause-count c = rw (c.deref.ensures.value, c.deref_mut-2.ensures.value) c.requires.column.sums.count

pub shift_sums-requires-clause-low : goal.shift_sums-requires-clause-low
shift_sums-requires-clause-low c =
    let ends = c.args.self.now.ends.items in
    let values = c.args.self.now.values.items in
    rw c.deref_mut-2.ensures.value (kept_sum ends values c.args.self.now.sums.items (λ x. neg_ℤ (pos (2 ^ 100)) ≤ℤ x) c.requires.column (λ n sum le is. sum_low _ n sum (omega (arith, le, c.requires.column.few)) is))

pub shift_sums-requires-clause-high : goal.shift_sums-requires-clause-high
shift_sums-requires-clause-high c =
    let ends = c.args.self.now.ends.items in
    let values = c.args.self.now.values.items in
    rw c.deref_mut-2.ensures.value (kept_sum ends values c.args.self.now.sums.items (λ x. x ≤ℤ pos (2 ^ 100)) c.requires.column (λ n sum le is. sum_high _ n sum (omega (arith, le, c.requires.column.few)) is))

pub returns-clause-column : goal.returns-clause-column
returns-clause-column c =
    let old = c.args.self.now in
    let by = to_z-of_z w64 c.args.by c.ranges.by in
    let is = written_back (λ x. x +ℤ to_z w64 (of_z w64 c.args.by)) old.values c.deref_mut.result.now c.shift_each.new.items c.deref_mut.ensures.value c.shift_each.ensures in
    let now : (with_items old.values c.shift_each.new.items).items ≡ map (λ x. x +ℤ c.args.by) old.values.items = subst (λ (n : ℤ). (with_items old.values c.shift_each.new.items).items ≡ map (λ x. x +ℤ n) old.values.items) by is in
    let was = c.deref_mut-2.ensures.value in
    let same : length c.shift_sums.new.sums ≡ length old.sums.items = c.shift_sums.ensures.count ∙ ap length was in
    let back : (with_items old.sums c.shift_sums.new.sums).items ≡ c.shift_sums.new.sums = with_items_is old.sums c.shift_sums.new.sums (omega (arith, same, old.sums.ok.0)) in
    let start = λ (at : ℕ). pos (start_at old.ends.items (16 * at)) in
    shifted_column c.args.by old.ends.items old.values.items _ old.sums.items _ c.requires.column c.requires.fits now (ap length back ∙ same) (λ at lt.
    ap (λ (xs : List ℤ). get_or xs at (pos 0)) back
    ∙ (c.shift_sums.ensures.each at (omega (arith, lt, ap length was))
    ∙ (ap (λ (ends : List ℕ). get_or c.deref_mut-2.result.now at (pos 0) +ℤ (to_z w64 (of_z w64 c.args.by) *ℤ pos (start_at ends (16 * at)))) c.deref.ensures.value
    ∙ (ap (λ (xs : List ℤ). get_or xs at (pos 0) +ℤ (to_z w64 (of_z w64 c.args.by) *ℤ start at)) was ∙ ap (λ (n : ℤ). get_or old.sums.items at (pos 0) +ℤ (n *ℤ start at)) by))))

pub returns-clause-items : goal.returns-clause-items
returns-clause-items c =
    let old = c.args.self.now in
    let by = to_z-of_z w64 c.args.by c.ranges.by in
    let is = written_back (λ x. x +ℤ to_z w64 (of_z w64 c.args.by)) old.values c.deref_mut.result.now c.shift_each.new.items c.deref_mut.ensures.value c.shift_each.ensures in
    let now : (with_items old.values c.shift_each.new.items).items ≡ map (λ x. x +ℤ c.args.by) old.values.items = subst (λ (n : ℤ). (with_items old.values c.shift_each.new.items).items ≡ map (λ x. x +ℤ n) old.values.items) by is in
    (shifted c.args.by old.ends.items old.values.items _ old.sums.items c.requires.column now).items

use Rattle.std.proofs.Common.{arith, ◌≡◌, ℤ, map, FitsSigned, w64, pos, ◌*ℤ◌, None, sym, ◌∙◌}
use Rattle.std.specs.Int.{w128}
use Rattle.std.specs.Vec.{with_items}
use Rattle.mp_columns.specs.Kept.{all_items}
use Rattle.mp_columns.proofs.ChangesOfRuns.{kept_sum, scaled, scaled_column, times_none}
use Rattle.mp_columns.proofs.CutAtRuns.{same_count}
use Rattle.mp_columns.proofs.Mapping.{written_back}
use Rattle.mp_columns.proofs.SumsOfChanges.{scaled_sum, sum_fits}
use Rattle.mp_columns.proofs.ValuesOfRuns.{values_all}
use Rattle.mp_columns.proofs.kept.Kept.scale_by.Goals as goal

pub returns-then-k-eq0-clause-items : goal.returns-then-k-eq0-clause-items
returns-then-k-eq0-clause-items c = c.flatten.ensures.items ∙ sym (times_none c.args.k (all_items c.args.self.now.ends.items c.args.self.now.values.items) c.if-k-eq0.true)

pub scale_each-requires : goal.scale_each-requires
scale_each-requires c =
    let ends = c.args.self.now.ends.items in
    let values = c.args.self.now.values.items in
    let longest = c.requires.column.longest in
    rw c.deref_mut.ensures.value (values_all (λ x. FitsSigned w64 (x *ℤ pos c.args.k)) ends values longest (same_count 0 None ends values longest) c.requires.fits)

pub scale_sums-requires : goal.scale_sums-requires
scale_sums-requires c =
    let ends = c.args.self.now.ends.items in
    let values = c.args.self.now.values.items in
    rw c.deref_mut-2.ensures.value (kept_sum ends values c.args.self.now.sums.items (λ x. FitsSigned w128 (x *ℤ pos c.args.k)) c.requires.column (λ n sum le is. sum_fits _ n _ (omega (arith, le, c.requires.column.few)) (scaled_sum c.args.k n (all_items ends values) sum le c.requires.fits is)))

pub returns-clause-column : goal.returns-clause-column
returns-clause-column c =
    let f = λ (x : ℤ). x *ℤ pos c.args.k in
    let old = c.args.self.now in
    let now : (with_items old.values c.scale_each.new.items).items ≡ map f old.values.items = written_back f old.values c.deref_mut.result.now c.scale_each.new.items c.deref_mut.ensures.value c.scale_each.ensures in
    let later : (with_items old.sums c.scale_sums.new.sums).items ≡ map f old.sums.items = written_back f old.sums c.deref_mut-2.result.now c.scale_sums.new.sums c.deref_mut-2.ensures.value c.scale_sums.ensures in
    scaled_column c.args.k old.ends.items old.values.items _ old.sums.items _ (omega (arith, c.if-k-eq0.false)) c.requires.column c.requires.fits now later

pub returns-clause-items : goal.returns-clause-items
returns-clause-items c =
    let f = λ (x : ℤ). x *ℤ pos c.args.k in
    let old = c.args.self.now in
    let now : (with_items old.values c.scale_each.new.items).items ≡ map f old.values.items = written_back f old.values c.deref_mut.result.now c.scale_each.new.items c.deref_mut.ensures.value c.scale_each.ensures in
    (scaled c.args.k old.ends.items old.values.items _ old.sums.items (omega (arith, c.if-k-eq0.false)) c.requires.column now).items

use Rattle.std.proofs.Common.{◌≡◌, ◌∙◌, sym, refl, arith}
use Rattle.std.proofs.lemmas.Result.{err_from_is_err_and}
use Rattle.nhnt_import.proofs.Walking.{all_read, goes_on, is_cut, refused, room, starts}
use Rattle.nhnt_import.proofs.walk.read_units.Goals as goal

pub loop-left-init : goal.loop-left-init
loop-left-init g c = record {
  same = refl;
  window = c.requires.window;
  stands = starts _ _ _ _ _ _ c.requires.told c.new-columns.ensures;
}

pub returns-in_err-check_unit-clause-fault : goal.returns-in_err-check_unit-clause-fault
returns-in_err-check_unit-clause-fault g c =
    let i = c.loop-left.invariant in
    let unit = rw i.same at c.in_ok-unit.ensures.unit in
    let p = err_from_is_err_and c.from_residual-in_err-check_unit.result c.from_residual-in_err-check_unit.ensures.1 in
    rw (p.1, p.2, sym c.size-size.ensures.size)
    (refused _ _ _ _ _ _ _ _ _ _ _ c.requires.told c.loop-left-test.true unit c.in_err-check_unit.ensures.fault i.stands)

pub push-requires-clause-deltas : goal.push-requires-clause-deltas
push-requires-clause-deltas g c = (room _ _ _ _ _ _ _ _ _ c.loop-left-test.true c.requires.few c.loop-left.invariant.stands).deltas

pub push-requires-clause-offsets : goal.push-requires-clause-offsets
push-requires-clause-offsets g c = (room _ _ _ _ _ _ _ _ _ c.loop-left-test.true c.requires.few c.loop-left.invariant.stands).offsets

pub push-requires-clause-syncs : goal.push-requires-clause-syncs
push-requires-clause-syncs g c = (room _ _ _ _ _ _ _ _ _ c.loop-left-test.true c.requires.few c.loop-left.invariant.stands).syncs

pub push-requires-clause-sizes : goal.push-requires-clause-sizes
push-requires-clause-sizes g c = (room _ _ _ _ _ _ _ _ _ c.loop-left-test.true c.requires.few c.loop-left.invariant.stands).sizes

pub loop-left-preserved : goal.loop-left-preserved
loop-left-preserved g c =
    let i = c.loop-left.invariant in
    let unit = rw i.same at c.in_ok-unit.ensures.unit in
    let tested = c.in_ok-check_unit.ensures in
    record {
      same = c.in_ok-unit.ensures.same ∙ i.same;
      window = c.in_ok-unit.ensures.window;
      stands = rw (c.in_ok-push.ensures, c.record_len.ensures.len)
          (goes_on _ _ _ _ _ _ _ _ _ _ c.loop-left-test.true c.in_ok-unit.ensures.len tested.inside unit tested.fault i.stands);
    }

pub returns-in_err-check_end-clause-fault : goal.returns-in_err-check_end-clause-fault
returns-in_err-check_end-clause-fault g c =
    let i = c.loop-left.invariant in
    let none : c.loop-left.left ≡ 0 = omega (arith, c.loop-left-test.false) in
    let whole = rw i.same at c.size.ensures.told in
    let end = c.in_err-check_end.ensures in
    let p = err_from_is_err_and c.from_residual-in_err-check_end.result c.from_residual-in_err-check_end.ensures.1 in
    rw (p.1, p.2, sym c.size-size.ensures.size)
    (is_cut _ _ _ _ _ _ _ _ _ _ _ c.requires.told none whole end.cut end.fault i.stands)

pub returns-clause-read : goal.returns-clause-read
returns-clause-read g c =
    let i = c.loop-left.invariant in
    let none : c.loop-left.left ≡ 0 = omega (arith, c.loop-left-test.false) in
    let whole = rw i.same at c.size.ensures.told in
    rw (sym c.size-size.ensures.size)
    (all_read _ _ _ _ _ _ _ _ _ _ c.requires.told none c.requires.few whole c.in_ok-check_end.ensures.ends i.stands)

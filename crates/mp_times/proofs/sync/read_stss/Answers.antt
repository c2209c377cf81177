use Rattle.std.proofs.Common.{rules, ◌≤◌, ◌<◌, inl, inr}
use Rattle.std.specs.Prelude.{◌⊎◌}
use Rattle.mp_times.proofs.MarksFromNumbers.{none_is_marked, sample_is_marked, number_is_wrong, numbers_are_refused, all_are_marked}
use Rattle.mp_times.proofs.sync.read_stss.Goals as goal
use Rattle.mp_times.proofs.sync.read_stss.Goals.{then-number-marked-via-then-number-marked, then-number-marked-via-else-number-marked+then-number-samples}

pub loop-i-init : goal.loop-i-init
loop-i-init g c = none_is_marked (search rules)

pub returns-then-number-marked : goal.returns-then-number-marked
returns-then-number-marked g c =
    let wrong : (c.u32_in-number.result ≤ c.len-marked.result) ⊎ (c.args.samples < c.u32_in-number.result) =
    elim c.then-number-marked.branch [
      | then-number-marked-via-then-number-marked w ↦ inl w.if-number-marked.true
      | then-number-marked-via-else-number-marked+then-number-samples w ↦ inr w.if-number-samples.true
    ] in
    rw (c.into.ensures, c.at.ensures)
    (numbers_are_refused _ _ _ _ _ _ c.row_count.ensures.answer c.in_ok-rows.was c.in_ok-rows.ensures.count (number_is_wrong c.loop-i.invariant c.loop-i-test.true c.len-marked.ensures.count c.u32_in-number.ensures wrong))

pub loop-i-preserved : goal.loop-i-preserved
loop-i-preserved g c =
    sample_is_marked c.loop-i.invariant c.loop-i-test.true c.len-marked.ensures.count c.u32_in-number.ensures c.if-number-marked.false c.if-number-samples.false c.in_ok-push_copies.ensures.ok c.in_ok-push.ensures.ok

pub returns : goal.returns
returns g c =
    all_are_marked _ _ _ _ _ _ _ _ _ _ c.row_count.ensures.answer c.in_ok-rows.was c.in_ok-rows.ensures.count c.loop-i.invariant c.loop-i-test.false c.len-marked-2.ensures.count c.in_ok-push_copies-2.ensures.ok

use Rattle.std.proofs.Common.{rules, ◌≡◌, ◌∙◌, ℕ, ◌+◌, ◌*◌, ◌<◌, ◌≤◌, w64, ap, arith, subst}
use Rattle.std.specs.Prelude.{unsigned_abs}
use Rattle.std.proofs.lemmas.Int.{to_z-of_z}
use Rattle.mp_interleave.proofs.DecodeTimes.{AreWalked, earlier-on, same-time, time-on, walk-on}
use Rattle.mp_interleave.proofs.times.samples_before.Goals as goal
use Rattle.mp_interleave.proofs.times.samples_before.Goals.{After-steps_before-steps}

delta : (c : After-steps_before-steps) → c.from-delta.result ≡ unsigned_abs c.in-Some.run'.value
delta c = c.from-delta.ensures ∙ (c.unsigned_abs.ensures.value ∙ ap unsigned_abs (to_z-of_z w64 c.in-Some.run'.value (search rules)))

along : (c : After-steps_before-steps) → (i : ℕ) → i < c.steps_before-steps.result → c.loop-count.time + i * unsigned_abs c.in-Some.run'.value < c.args.end
along c = subst (λ (d : ℕ). (i : ℕ) → i < c.steps_before-steps.result → c.loop-count.time + i * d < c.args.end) (delta c) c.steps_before-steps.ensures.earlier

within : (c : After-steps_before-steps) → c.steps_before-steps.result ≤ c.in-Some.run'.count
within c = omega (arith, c.steps_before-steps.ensures.within, c.min.ensures)

pub returns-then-steps-run-clause-earlier : goal.returns-then-steps-run-clause-earlier
returns-then-steps-run-clause-earlier c =
    let s = (goal.at.returns-then-steps-run-clause-earlier c).After-steps_before-steps in
    earlier-on c.args.deltas.now c.args.before c.loop-count.count c.loop-count.time c.loop-count.cursor c.args.end c.next_run.new.cursor c.steps_before-steps.result c.in-Some.run'
    c.loop-count.invariant.1 c.in-Some.ensures.next (within s) (along s)

pub returns-then-steps-run-clause-later : goal.returns-then-steps-run-clause-later
returns-then-steps-run-clause-later c =
    let s = (goal.at.returns-then-steps-run-clause-later c).After-steps_before-steps in
    λ fewer.
    let stopped = c.steps_before-steps.ensures.later (omega (arith, fewer, c.if-steps-run.true, c.min.ensures)) in
    let here = subst (λ (d : ℕ). c.args.end ≤ c.loop-count.time + c.steps_before-steps.result * d) (delta s) stopped in
    subst (λ (n : ℕ). c.args.end ≤ n)
    (time-on c.args.deltas.now c.args.before c.loop-count.count c.loop-count.time c.loop-count.cursor c.args.end c.next_run.new.cursor c.steps_before-steps.result c.in-Some.run' c.loop-count.invariant.1 c.in-Some.ensures.next (within s))
    here

pub loop-count-preserved : goal.loop-count-preserved
loop-count-preserved c =
    let s = (goal.at.loop-count-preserved c).After-steps_before-steps in
    let all : c.steps_before-steps.result ≡ c.in-Some.run'.count = omega (arith, within s, c.if-steps-run.false) in (
      omega (arith, c.steps_before-steps.ensures.within, c.min.ensures, c.loop-count-test.true),
      subst (λ (time : ℕ). AreWalked c.args.deltas.now c.args.before (c.loop-count.count + c.steps_before-steps.result) time c.next_run.new.cursor c.args.end)
          (same-time c.loop-count.time c.steps_before-steps.result (unsigned_abs c.in-Some.run'.value) c.from-delta.result c.from.result (delta s) c.from.ensures)
          (walk-on c.args.deltas.now c.args.before c.loop-count.count c.loop-count.time c.loop-count.cursor c.args.end c.next_run.new.cursor c.steps_before-steps.result c.in-Some.run'
          c.loop-count.invariant.1 c.in-Some.ensures.next all (along s)),
    )

use Rattle.std.proofs.Common.{◌<◌, ◌+◌, ◌-◌, ◌/◌, arith}
use Rattle.mp_columns.proofs.Searching.{start_next, one_more_cost, one_more_width, next_pow, first_step}
use Rattle.mp_columns.proofs.search.find_in.Goals as goal

pub loop-low-init : goal.loop-low-init
loop-low-init g c =
    let within = c.lowest-low.ensures.within in
    let few = c.lowest-low.ensures.few in
    let last = c.highest-high.ensures.is in
    let one = first_step _ _ c.tick.ensures in
    record {
      order = omega (arith, within, few, last);
      inside = omega (arith, within, last);
      later = omega (arith, c.tick.ensures);
      begun = c.lowest-low.ensures.begun;
      holds = c.highest-high.ensures.holds;
      cost = rw one (omega (arith, within));
      width = rw one (omega (arith, within, last));
    }

pub loop-low-preserved-then-ends-middle : goal.loop-low-preserved-then-ends-middle
loop-low-preserved-then-ends-middle g c =
    let p = next_pow c.args.steps.now c.loop-low.steps c.tick-in-loop-low.new.self c.tick-in-loop-low.ensures c.loop-low.invariant.later in
    let w : 0 < c.loop-low.high - c.loop-low.low = omega arith in
    record {
      order = omega arith;
      inside = omega arith;
      later = omega arith;
      begun = rw (start_next c.args.ends.now (c.loop-low.low + (c.loop-low.high - c.loop-low.low) / 2)) c.if-ends-middle.true;
      holds = c.loop-low.invariant.holds;
      cost = rw p (one_more_cost _ _ _ w c.loop-low.invariant.width);
      width = rw p (one_more_width _ _ _ _ (omega arith) c.loop-low.invariant.width);
    }

pub loop-low-preserved : goal.loop-low-preserved
loop-low-preserved g c =
    let p = next_pow c.args.steps.now c.loop-low.steps c.tick-in-loop-low.new.self c.tick-in-loop-low.ensures c.loop-low.invariant.later in
    let w : 0 < c.loop-low.high - c.loop-low.low = omega arith in
    record {
      order = omega arith;
      inside = omega arith;
      later = omega arith;
      begun = c.loop-low.invariant.begun;
      holds = c.if-ends-middle.false;
      cost = rw p (one_more_cost _ _ _ w c.loop-low.invariant.width);
      width = rw p (one_more_width _ _ _ _ (omega arith) c.loop-low.invariant.width);
    }

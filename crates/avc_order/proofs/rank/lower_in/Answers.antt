use Rattle.std.proofs.Common.{◌<◌, ◌+◌, ◌-◌, ◌/◌, length, sym, ◌∙◌, arith}
use Rattle.avc_order.specs.Ranks.{count_at}
use Rattle.avc_order.proofs.Counting.{count_front, lt-le, le-not}
use Rattle.avc_order.proofs.rank.lower_in.Goals as goal

pub loop-low-preserved-then-is_lower : goal.loop-low-preserved-then-is_lower
loop-low-preserved-then-is_lower c =
    let mid = c.loop-low.low + (c.loop-low.high - c.loop-low.low) / 2 in
    let inside : mid < length c.args.sorted.now = omega arith in
    record {
      order = omega arith;
      inside = omega arith;
      below = λ k h. lt-le _ (count_at c.args.sorted.now mid) c.args.count.now (c.requires k mid (omega arith) inside) (sym c.is_lower.ensures ∙ c.if-is_lower.true);
      above = c.loop-low.invariant.above;
    }

pub loop-low-preserved : goal.loop-low-preserved
loop-low-preserved c =
    let mid = c.loop-low.low + (c.loop-low.high - c.loop-low.low) / 2 in
    record {
      order = omega arith;
      inside = omega arith;
      below = c.loop-low.invariant.below;
      above = λ k h lt. le-not (count_at c.args.sorted.now mid) _ c.args.count.now (c.requires mid k h lt) (sym c.is_lower.ensures ∙ c.if-is_lower.false);
    }

pub returns : goal.returns
returns c = sym (count_front c.args.count.now c.args.sorted.now c.loop-low.low (omega arith) c.loop-low.invariant.below (λ k h lt. c.loop-low.invariant.above k (omega arith) lt))

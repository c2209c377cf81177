use Rattle.cut_op.proofs.SortedSpans.{in_order_sorted}
use Rattle.cut_op.proofs.plan.kept_by.Goals as goal

pub kept_range-requires-clause-sorted : goal.kept_range-requires-clause-sorted
kept_range-requires-clause-sorted c = in_order_sorted c.args.spans.now c.put_in_order.new.spans c.put_in_order.ensures

pub returns : goal.returns
returns c = c.kept_range.ensures c.args.spans.now c.put_in_order.ensures

use Rattle.std.proofs.Common.{◌∙◌, ap}
use Rattle.avc_order.specs.Ranks.{lower}
use Rattle.avc_order.proofs.Counting.{rises_sorted, lower_moved}
use Rattle.avc_order.proofs.rank.sorted_counts.Goals as goal

pub returns-clause-rises : goal.returns-clause-rises
returns-clause-rises c = rises_sorted c.sort_unstable.new.self.items c.sort_unstable.ensures.sorted

pub returns-clause-same : goal.returns-clause-same
returns-clause-same c = λ x. lower_moved x _ _ c.sort_unstable.ensures.permutation ∙ ap (lower x) c.in_ok-sorted.ensures.items

use Rattle.std.proofs.Common.{◌≡◌, ◌<◌, ◌≤◌, ◌-◌, true, length}
use Rattle.avc_order.specs.Sequence.{is_sync}
use Rattle.avc_order.specs.Ranks.{AreDistinct}
use Rattle.avc_order.proofs.Ranking.{Ranked}
use Rattle.avc_order.proofs.rank.ranks.Given as goal

abbrev pub invariant-loop-first : goal.invariant-loop-first
invariant-loop-first l = record {
  within : l.first ≤ length l.counts;
  starts : l.first < length l.counts → is_sync l.syncs l.first ≡ true;
  each : length l.ranks.items ≡ l.first;
  ranked : Ranked l.counts l.syncs l.ranks.items l.first;
  distinct : AreDistinct l.counts l.syncs l.first;
}

abbrev pub decreases-loop-first : goal.decreases-loop-first
decreases-loop-first l = length l.counts - l.first

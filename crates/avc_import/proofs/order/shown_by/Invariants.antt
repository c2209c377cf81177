use Rattle.std.proofs.Common.{◌≡◌, ◌+◌, ◌-◌, map}
use Rattle.std.specs.Prelude.{slice_index}
use Rattle.std.specs.List.{range_with_len}
use Rattle.avc_import.specs.Ranking.{begin_of}
use Rattle.avc_import.proofs.order.shown_by.Given as goal

abbrev pub invariant-loop-k : goal.invariant-loop-k
invariant-loop-k l = record {
  first : l.first ≡ begin_of l.syncs (l.k - 1);
  shown : l.shown.items ≡ map (λ k. begin_of l.syncs k + slice_index l.ranks k) (range_with_len 0 l.k);
}

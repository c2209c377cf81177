use Rattle.std.proofs.Common.{◌≡◌, ◌≢◌, ◌<◌, ℕ, true, false, length, get_or, map, take, ◌++◌}
use Rattle.avc_order.specs.Ranks.{lower, count_at}
use Rattle.avc_order.proofs.rank.append_ranks.Given as goal

abbrev pub invariant-loop-i : goal.invariant-loop-i
invariant-loop-i l = record {
  sizes : length l.taken.items ≡ length l.counts;
  ranks : l.ranks.items ≡ l.fn.ranks.items ++ map (λ c. lower c l.counts) (take l.i l.counts);
  seen : (k : ℕ) → get_or l.taken.items k false ≡ true → (j : ℕ) × (j < l.i) × (lower (count_at l.counts j) l.counts ≡ k);
  kept : (j : ℕ) → j < l.i → get_or l.taken.items (lower (count_at l.counts j) l.counts) false ≡ true;
  distinct : (i j : ℕ) → j < i → i < l.i → count_at l.counts j ≢ count_at l.counts i;
}

use Rattle.std.proofs.Common.{◌≡◌, ℕ, ◌+◌, ◌*◌, ◌/◌, ◌<◌, length, get_or, pos}
use Rattle.mp_columns.specs.Kept.{IsSum, all_items, start_at}
use Rattle.mp_columns.proofs.sums.fill_sums.Given as goal

abbrev pub invariant-loop-run : goal.invariant-loop-run
invariant-loop-run l = record {
  count : length l.sums ≡ (length l.ends + 15) / 16;
  so_far : IsSum (all_items l.ends l.values) (start_at l.ends l.run) l.sum;
  each : (at : ℕ) → 16 * at < l.run → IsSum (all_items l.ends l.values) (start_at l.ends (16 * at)) (get_or l.sums at (pos 0));
}

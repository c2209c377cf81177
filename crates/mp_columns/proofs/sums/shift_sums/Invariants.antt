use Rattle.std.proofs.Common.{◌≡◌, ℕ, ◌*◌, ◌<◌, ◌≤◌, length, get_or, pos, ◌+ℤ◌, ◌*ℤ◌}
use Rattle.mp_columns.specs.Kept.{start_at}
use Rattle.mp_columns.proofs.sums.shift_sums.Given as goal

abbrev pub invariant-loop-at : goal.invariant-loop-at
invariant-loop-at l = record {
  count : length l.sums ≡ length l.fn.sums;
  done : (at : ℕ) → at < l.at → get_or l.sums at (pos 0) ≡ get_or l.fn.sums at (pos 0) +ℤ (l.by *ℤ pos (start_at l.ends (16 * at)));
  left : (at : ℕ) → l.at ≤ at → get_or l.sums at (pos 0) ≡ get_or l.fn.sums at (pos 0);
}

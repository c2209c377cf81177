use Rattle.std.proofs.Common.{◌≡◌, ◌-◌, ◌≤◌, length, slice_index, drop}
use Rattle.mp_interleave.specs.Order.{keys_in}
use Rattle.mp_interleave.specs.Left.{least_from, tails}
use Rattle.mp_interleave.proofs.next.least_track.Given as goal

abbrev pub invariant-loop-at : goal.invariant-loop-at
invariant-loop-at l = (l.at ≤ length l.tracks) × (l.best ≡ least_from l.at (tails (λ position. slice_index l.next position - 1) l.at (drop l.at (keys_in l.window l.tracks))))

abbrev pub decreases-loop-at : goal.decreases-loop-at
decreases-loop-at l = l.at

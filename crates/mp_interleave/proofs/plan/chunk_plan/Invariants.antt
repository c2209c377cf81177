use Rattle.std.proofs.Common.{◌≡◌, ◌-◌, length, take}
use Rattle.mp_interleave.specs.Order.{planned}
use Rattle.mp_interleave.specs.Place.{StandAt}
use Rattle.mp_interleave.proofs.plan.chunk_plan.Given as goal

abbrev pub invariant-loop-chunk : goal.invariant-loop-chunk
invariant-loop-chunk l = StandAt l.movie l.cursors × (l.cursors.window ≡ l.window) × (l.chunks.items ≡ take l.cursors.done (planned l.window l.movie))

abbrev pub decreases-loop-chunk : goal.decreases-loop-chunk
decreases-loop-chunk l = length (planned l.window l.movie) - l.cursors.done

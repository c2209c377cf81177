use Rattle.std.proofs.Common.{◌≡◌, ◌+◌, take}
use Rattle.std.specs.Prelude.{sum}
use Rattle.mp_movie.specs.Placed.{naturals}
use Rattle.mp_layout.proofs.places.range_sum.Given as goal

abbrev pub invariant-loop-i : goal.invariant-loop-i
invariant-loop-i l = sum (take l.from (naturals l.column)) + l.sum ≡ sum (take l.i (naturals l.column))

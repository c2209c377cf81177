use Rattle.std.proofs.Common.{◌≤◌, drop}
use Rattle.mp_frac.specs.Divisors.{most}
use Rattle.mp_movie.proofs.ScalesGrow.{AreLeft}
use Rattle.mp_movie.proofs.scales.settle.Given as goal

-- the times so far are served
abbrev pub invariant-loop-time : goal.invariant-loop-time
invariant-loop-time l = record {
  left : AreLeft l.track.scale l.times l.settled (drop l.time-index l.times);
  most : l.settled ≤ most;
}

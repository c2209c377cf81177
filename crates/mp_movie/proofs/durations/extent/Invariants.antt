use Rattle.std.proofs.Common.{◌-◌, length}
use Rattle.mp_movie.proofs.LatestEnds.{AreSeen}
use Rattle.mp_movie.proofs.durations.extent.Given as goal

abbrev pub invariant-loop-run : goal.invariant-loop-run
invariant-loop-run l = AreSeen l.track l.cursor l.latest

abbrev pub decreases-loop-run : goal.decreases-loop-run
decreases-loop-run l = length l.track.offsets - l.cursor

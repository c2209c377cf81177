use Rattle.std.proofs.Common.{◌-◌, ◌≤◌, length}
use Rattle.mp_times.specs.Written.{is_unsigned}
use Rattle.mp_movie.specs.PartsFit.{is_signed}
use Rattle.mp_movie.proofs.RunsAreTested.{IsTested}
use Rattle.mp_movie.proofs.limits.is_wide.Given as goal

-- the offsets before the cursor are tested
abbrev pub invariant-loop-run : goal.invariant-loop-run
invariant-loop-run l = record {
  inside : l.cursor ≤ length l.offsets;
  unsigned : IsTested is_unsigned l.offsets l.cursor l.unsigned;
  signed : IsTested is_signed l.offsets l.cursor l.signed;
}

abbrev pub decreases-loop-run : goal.decreases-loop-run
decreases-loop-run l = length l.offsets - l.cursor

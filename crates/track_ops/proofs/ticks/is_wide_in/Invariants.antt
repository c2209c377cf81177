use Rattle.std.proofs.Common.{◌-◌, ◌≤◌, length}
use Rattle.mp_times.specs.Written.{is_unsigned}
use Rattle.mp_movie.specs.PartsFit.{is_signed}
use Rattle.track_ops.specs.Ticks.{signed_in_scale}
use Rattle.track_ops.proofs.RunsInScale.{IsTested}
use Rattle.track_ops.proofs.ticks.is_wide_in.Given as goal

-- the offsets before the cursor are tested
abbrev pub invariant-loop-run : goal.invariant-loop-run
invariant-loop-run l = record {
  inside : l.cursor ≤ length l.offsets;
  unsigned : IsTested (λ x. is_unsigned (signed_in_scale l.old l.new x)) l.offsets l.cursor l.unsigned;
  signed : IsTested (λ x. is_signed (signed_in_scale l.old l.new x)) l.offsets l.cursor l.signed;
}

abbrev pub decreases-loop-run : goal.decreases-loop-run
decreases-loop-run l = length l.offsets - l.cursor

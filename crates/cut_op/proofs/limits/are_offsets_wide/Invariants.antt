use Rattle.std.proofs.Common.{◌≤◌, ◌-◌, length}
use Rattle.mp_times.specs.Written.{is_unsigned}
use Rattle.mp_movie.specs.PartsFit.{is_signed}
use Rattle.cut_op.specs.Placed.{moved_offset}
use Rattle.cut_op.proofs.KeptRuns.{AreAsked}
use Rattle.cut_op.proofs.limits.are_offsets_wide.Given as goal

abbrev pub invariant-loop-cursor : goal.invariant-loop-cursor
invariant-loop-cursor l = record {
  unsigned : AreAsked (λ offset. is_unsigned (moved_offset l.factor l.ahead offset)) l.offsets l.from l.to l.cursor l.unsigned;
  signed : AreAsked (λ offset. is_signed (moved_offset l.factor l.ahead offset)) l.offsets l.from l.to l.cursor l.signed;
  inside : l.cursor ≤ length l.offsets;
}

abbrev pub decreases-loop-cursor : goal.decreases-loop-cursor
decreases-loop-cursor l = length l.offsets - l.cursor

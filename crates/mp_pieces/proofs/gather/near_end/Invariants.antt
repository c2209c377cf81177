use Rattle.std.proofs.Common.{◌≤◌}
use Rattle.mp_pieces.proofs.gather.near_end.Given as goal

abbrev pub invariant-loop-piece : goal.invariant-loop-piece
invariant-loop-piece l = l.end ≤ l.last

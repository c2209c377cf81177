use Rattle.mp_interleave.specs.Place.{StandAt}
use Rattle.mp_interleave.proofs.tests.check_turns.Given as goal

abbrev pub invariant-loop-row : goal.invariant-loop-row
invariant-loop-row g l = StandAt l.movie l.cursors

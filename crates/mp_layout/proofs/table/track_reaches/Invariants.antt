use Rattle.mp_layout.specs.Chunked.{AreReaches}
use Rattle.mp_layout.proofs.table.track_reaches.Given as goal

-- what is known of the tracks so far
abbrev pub invariant-loop-position : goal.invariant-loop-position
invariant-loop-position l = AreReaches l.scale l.tracks l.chunks l.places l.position l.reaches.items

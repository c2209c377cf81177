use Rattle.std.proofs.Common.{◌≤◌}
use Rattle.mp_pieces.specs.Window.{IsOf}
use Rattle.mp_pieces.proofs.tests.are_read.Given as goal

abbrev pub invariant-loop-at : goal.invariant-loop-at
invariant-loop-at l = record { part : IsOf l.folder.folder.folder l.window; room : 5 ≤ l.window.room }

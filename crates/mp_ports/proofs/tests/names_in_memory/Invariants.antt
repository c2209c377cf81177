use Rattle.std.proofs.Common.{length, ◌≤◌}
use Rattle.mp_ports.proofs.tests.names_in_memory.Given as goal

abbrev pub invariant-loop-name : goal.invariant-loop-name
invariant-loop-name g l = length l.files.folder.opened ≤ l.name-index

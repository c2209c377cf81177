use Rattle.std.proofs.Common.{◌-◌, ◌≤◌, length}
use Rattle.mp_entries.proofs.ReferencesInOrder.{Told}
use Rattle.mp_entries.proofs.reference.local_references.Given as goal

abbrev pub invariant-loop-child : goal.invariant-loop-child
invariant-loop-child l = record { inside : l.at ≤ length l.bytes; told : Told l.base l.bytes l.at l.local.items }

abbrev pub decreases-loop-child : goal.decreases-loop-child
decreases-loop-child l = length l.bytes - l.at

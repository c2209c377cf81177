use Rattle.std.proofs.Common.{◌-◌, ◌≤◌, length}
use Rattle.std.specs.List.{AllByRecursion}
use Rattle.mp_entries.specs.Entry.{IsEntry}
use Rattle.mp_entries.proofs.EntriesInOrder.{Kept}
use Rattle.mp_entries.proofs.description.read_entries.Given as goal

abbrev pub invariant-loop-child : goal.invariant-loop-child
invariant-loop-child l = record {
  inside : l.at ≤ length l.bytes;
  kept : Kept l.base l.bytes l.local l.at l.entries.items;
  entries : AllByRecursion IsEntry l.entries.items;
}

abbrev pub decreases-loop-child : goal.decreases-loop-child
decreases-loop-child l = length l.bytes - l.at

use Rattle.std.proofs.Common.{drop}
use Rattle.mp_boxes.specs.Push.{IsLeft}
use Rattle.mp_entries.proofs.description.push_entries.Given as goal

-- the entries that are not yet pushed are left
abbrev pub invariant-loop-entry : goal.invariant-loop-entry
invariant-loop-entry l = IsLeft l.fn.out l.out l.entries (drop l.entry-index l.entries)

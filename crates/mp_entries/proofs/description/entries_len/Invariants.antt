use Rattle.std.proofs.Common.{◌≡◌, ◌+◌, ◌<◌, ◌^◌, length, drop}
use Rattle.mp_boxes.specs.Push.{joined}
use Rattle.mp_boxes.specs.Table.{capped}
use Rattle.mp_entries.proofs.description.entries_len.Given as goal

-- what is counted and what is left are the whole
abbrev pub invariant-loop-entry : goal.invariant-loop-entry
invariant-loop-entry l = (capped (l.len + length (joined (drop l.entry-index l.entries))) ≡ capped (length (joined l.entries))) × (l.len < 2 ^ 64)

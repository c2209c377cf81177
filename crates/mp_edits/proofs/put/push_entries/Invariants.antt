use Rattle.std.proofs.Common.{map, drop}
use Rattle.mp_boxes.specs.Field.{body_bytes}
use Rattle.mp_boxes.specs.Push.{IsLeft}
use Rattle.mp_edits.specs.Written.{entry_fields}
use Rattle.mp_edits.proofs.put.push_entries.Given as goal

-- the entries that are left stand in the place of all
abbrev pub invariant-loop-segment : goal.invariant-loop-segment
invariant-loop-segment l =
    IsLeft l.fn.out l.out (map body_bytes (map (entry_fields l.wide) l.edits)) (map body_bytes (map (entry_fields l.wide) (drop l.segment-index l.edits)))

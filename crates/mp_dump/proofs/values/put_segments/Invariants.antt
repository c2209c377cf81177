use Rattle.std.proofs.Common.{◌≡◌, ◌++◌, false, drop}
use Rattle.serde_json.specs.Written.{items_text}
use Rattle.mp_dump.specs.Json.{items, segment_value}
use Rattle.mp_dump.proofs.values.put_segments.Given as goal

-- what is written, and what is left, are all
abbrev pub invariant-loop-segment : goal.invariant-loop-segment
invariant-loop-segment l =
    l.out.items ++ items_text l.later (items segment_value (drop l.segment-index l.edits))
    ≡ l.initial.out.items ++ items_text false (items segment_value l.edits)

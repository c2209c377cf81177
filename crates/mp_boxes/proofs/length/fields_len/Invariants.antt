use Rattle.std.proofs.Common.{◌≡◌, ◌+◌, ◌<◌, ◌^◌, length, drop}
use Rattle.mp_boxes.specs.Field.{body_bytes}
use Rattle.mp_boxes.specs.Table.{capped}
use Rattle.mp_boxes.proofs.length.fields_len.Given as goal

-- what is counted and what is left are the whole
abbrev pub invariant-loop-field : goal.invariant-loop-field
invariant-loop-field l = (capped (l.len + length (body_bytes (drop l.field-index l.fields))) ≡ capped (length (body_bytes l.fields))) × (l.len < 2 ^ 64)

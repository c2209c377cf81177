use Rattle.std.proofs.Common.{◌≡◌, map, take, drop}
use Rattle.mp_edits.specs.Segments.{shifted}
use Rattle.mp_edits.proofs.segments.shift.Given as goal

-- the segments so far are shifted, the others are as they were
abbrev pub invariant-loop-segment : goal.invariant-loop-segment
invariant-loop-segment l = record {
  front : take l.segment-index l.edits ≡ map (shifted l.by) (take l.segment-index l.fn.edits);
  rest : drop l.segment-index l.edits ≡ drop l.segment-index l.fn.edits;
}

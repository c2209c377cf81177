use Rattle.std.proofs.Common.{drop, map}
use Rattle.std.specs.List.{AllByRecursion}
use Rattle.mp_clip.specs.Cut.{CanTellCut, LeadsTo, cuts_of, piece_of}
use Rattle.mp_clip.proofs.clipping.pieces.Given as goal

-- the pieces so far, and those that are left, make all; those that are left can be told
abbrev pub invariant-loop-segment : goal.invariant-loop-segment
invariant-loop-segment l = record {
  leads : LeadsTo l.scales l.new (map (piece_of l.scales) (cuts_of l.scales l.from l.to l.edits)) l.made.items (cuts_of l.scales l.begin l.end (drop l.segment-index l.edits));
  told : AllByRecursion (CanTellCut l.scales l.new) (cuts_of l.scales l.begin l.end (drop l.segment-index l.edits));
}

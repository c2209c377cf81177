use Rattle.std.proofs.Common.{◌-◌, ◌≤◌, List, length}
use Rattle.mp_boxes.specs.Boxes.{AreLeft, Box}
use Rattle.mp_boxes.proofs.ChildrenAreFound.{Passed}
use Rattle.mp_boxes.proofs.child.next_of_two.Given as goal

-- no box of either type was passed
abbrev pub invariant-loop-child : goal.invariant-loop-child
invariant-loop-child l = record {
  inside : l.at ≤ length l.bytes;
  behind : l.from ≤ l.at;
  passed : (left : List Box) → AreLeft l.base l.from l.bytes left → Passed l.base l.bytes l.kind l.other l.at left;
}

abbrev pub decreases-loop-child : goal.decreases-loop-child
decreases-loop-child l = length l.bytes - l.at

use Rattle.std.proofs.Common.{◌-◌, ◌≤◌, length}
use Rattle.mp_boxes.proofs.ChildrenAreFound.{Counted}
use Rattle.mp_boxes.proofs.child.child_count.Given as goal

abbrev pub invariant-loop-child : goal.invariant-loop-child
invariant-loop-child l = record {
  inside : l.at ≤ length l.bytes;
  few : l.count ≤ l.at;
  counted : Counted l.base l.bytes l.kind l.at l.count;
}

abbrev pub decreases-loop-child : goal.decreases-loop-child
decreases-loop-child l = length l.bytes - l.at

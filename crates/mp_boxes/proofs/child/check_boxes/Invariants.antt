use Rattle.std.proofs.Common.{◌-◌, ◌≤◌, length}
use Rattle.mp_boxes.proofs.FaultIsFirst.{Walked}
use Rattle.mp_boxes.proofs.child.check_boxes.Given as goal

-- what stands in front of `at` is boxes
abbrev pub invariant-loop-child : goal.invariant-loop-child
invariant-loop-child l = record { inside : l.at ≤ length l.bytes; walked : Walked l.base l.bytes l.at }

abbrev pub decreases-loop-child : goal.decreases-loop-child
decreases-loop-child l = length l.bytes - l.at

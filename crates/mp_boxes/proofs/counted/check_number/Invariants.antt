use Rattle.std.proofs.Common.{◌-◌, ◌≤◌, false, List, [], length}
use Rattle.mp_boxes.specs.Boxes.{Box, IsCut}
use Rattle.mp_boxes.proofs.NumberIsKnown.{Known}
use Rattle.mp_boxes.proofs.counted.check_number.Given as goal

abbrev pub invariant-loop-child : goal.invariant-loop-child
invariant-loop-child l = record {
  inside : l.at ≤ length l.bytes;
  few : l.found ≤ l.at;
  known : (all : List Box) → IsCut false l.base l.bytes all [] → Known l.base l.bytes l.least l.at l.found l.is_short all;
}

abbrev pub decreases-loop-child : goal.decreases-loop-child
decreases-loop-child l = length l.bytes - l.at

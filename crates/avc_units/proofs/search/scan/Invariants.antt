use Rattle.std.proofs.Common.{◌≡◌, ◌+◌, ◌-◌, ◌≤◌, ℕ, List, ◌++◌, drop, length}
use Rattle.avc_units.specs.Scan.{left_of}
use Rattle.avc_units.proofs.search.scan.Given as goal

abbrev pub invariant-loop-at : goal.invariant-loop-at
invariant-loop-at l = record {
  few : l.seen ≤ 2;
  inside : l.seen ≤ l.zeros + l.at;
  within : l.at ≤ length l.piece;
  left : (rest : List ℕ) → left_of l.zeros (l.piece ++ rest) + l.seen ≡ l.zeros + l.at + left_of l.seen (drop l.at l.piece ++ rest);
}

abbrev pub decreases-loop-at : goal.decreases-loop-at
decreases-loop-at l = length l.piece - l.at

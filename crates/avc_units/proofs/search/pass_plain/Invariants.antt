use Rattle.std.proofs.Common.{◌≡◌, ◌+◌, ◌-◌, ◌≤◌, ℕ, List, ◌++◌, drop, length}
use Rattle.avc_units.specs.Scan.{left_of}
use Rattle.avc_units.proofs.search.pass_plain.Given as goal

abbrev pub invariant-loop-at : goal.invariant-loop-at
invariant-loop-at l = record {
  low : l.from ≤ l.at;
  high : l.at ≤ length l.piece;
  plain : (rest : List ℕ) → left_of 0 (drop l.from l.piece ++ rest) + l.from ≡ l.at + left_of 0 (drop l.at l.piece ++ rest);
}

abbrev pub decreases-loop-at : goal.decreases-loop-at
decreases-loop-at l = length l.piece - l.at

use Rattle.std.proofs.Common.{◌≡◌, ◌+◌, drop}
use Rattle.avc_units.specs.Reading.{zeros_of}
use Rattle.avc_units.proofs.search.zeros_in.Given as goal

abbrev pub invariant-loop-i : goal.invariant-loop-i
invariant-loop-i l = zeros_of l.piece ≡ l.i + zeros_of (drop l.i l.piece)

use Rattle.std.proofs.Common.{◌≡◌, drop}
use Rattle.generator.specs.Sum.{sum_from, sum_of}
use Rattle.generator.proofs.sum.sum_of.Given as goal

abbrev pub invariant-loop-byte : goal.invariant-loop-byte
invariant-loop-byte l = sum_from l.sum (drop l.byte-index l.bytes) ≡ sum_of l.bytes

use Rattle.std.proofs.Common.{◌≡◌, ◌+◌, ◌^◌, ◌≤◌, drop, length}
use Rattle.avc_units.specs.Reading.{zeros_of}
use Rattle.avc_units.proofs.bits.Bits.ue.Given as goal

abbrev pub invariant-loop-bit : goal.invariant-loop-bit
invariant-loop-bit l = record {
  same : l.self ≡ l.fn.self;
  here : drop l.zeros l.self ≡ l.ahead;
  count : zeros_of l.self ≡ l.zeros + zeros_of l.ahead;
  few : l.zeros ≤ 31;
  power : l.power ≡ 2 ^ l.zeros;
}

abbrev pub decreases-loop-bit : goal.decreases-loop-bit
decreases-loop-bit l = length l.ahead

use Rattle.std.proofs.Common.{◌≡◌, ◌^◌, ◌<◌, ◌≤◌, drop, take, length}
use Rattle.avc_units.specs.Bits.{number}
use Rattle.avc_units.proofs.bits.Bits.take.Given as goal

abbrev pub invariant-loop-i : goal.invariant-loop-i
invariant-loop-i l = record {
  here : drop l._i l.self ≡ l.ahead;
  value : l.value ≡ number (take l._i l.self);
  small : l.value < 2 ^ l._i;
  within : l._i ≤ length l.self;
}

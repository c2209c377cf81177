use Rattle.std.proofs.Common.{refl, sym, ◌∙◌, arith}
use Rattle.avc_units.specs.Bits.{number}
use Rattle.avc_units.proofs.Numbers.{number-next, read_short, read_all, no_more, doubled}
use Rattle.avc_units.proofs.bits.Bits.take.Goals as goal

pub loop-i-init : goal.loop-i-init
unfolding number
loop-i-init c = record {
  here = sym c.from_here-ahead.ensures;
  value = refl;
  small = omega arith;
  within = omega arith;
}

pub returns-in-None-clause-read : goal.returns-in-None-clause-read
returns-in-None-clause-read c =
    let none = no_more c.loop-i._i c.args.self.now c.loop-i.ahead c.loop-i.invariant.here c.in-None.ensures.0 in
    (read_short c.args.n c.args.self.now (omega arith), refl)

pub loop-i-preserved : goal.loop-i-preserved
loop-i-preserved c =
    let e = c.in-Some.ensures in
    let n = number-next c.args.self.now c.loop-i._i c.in-Some.bit c.next_bit.new.self (c.loop-i.invariant.here ∙ e.0) in
    record {
      here = n.1;
      value = rw (c.loop-i.invariant.value, c.from.ensures) (sym n.0);
      small = rw c.from.ensures (doubled c.loop-i._i c.loop-i.value c.in-Some.bit c.loop-i.invariant.small e.1);
      within = n.2;
    }

pub returns-clause-read : goal.returns-clause-read
returns-clause-read c = read_all c.args.n c.loop-i._i c.loop-i.value c.args.self.now c.loop-i.ahead (omega arith) c.loop-i.invariant.within c.loop-i.invariant.value c.loop-i.invariant.here

use Rattle.std.proofs.Common.{◌≤◌, refl, arith}
use Rattle.avc_units.proofs.Numbers.{power_next, pow-small, read_none, code_read, code_long, code_cut, code_zeros, zero_more, one_more}
use Rattle.avc_units.proofs.bits.Bits.ue.Goals as goal

pub returns-in_default-take-clause-read : goal.returns-in_default-take-clause-read
returns-in_default-take-clause-read c =
    let i = c.loop-bit.invariant in
    let o = one_more _ _ _ c.loop-bit.zeros c.in-Some.bit i.here i.count c.in-Some.ensures.0 c.if-bit-eq1.true in
    (rw (← i.same) (code_cut _ _ c.loop-bit.zeros o.0 o.1 (read_none c.loop-bit.zeros _ c.in_default-take.ensures.read.0)), i.same)

pub overflow_cast-result : goal.overflow_cast-result
overflow_cast-result c =
    let i = c.loop-bit.invariant in
    let p : c.loop-bit.power ≤ 2147483648 = rw i.power (pow-small c.loop-bit.zeros i.few) in
    omega (arith, p, i.power, c.in-Some-take.ensures.small, c.from.ensures)

pub returns-then-bit-eq1-clause-read : goal.returns-then-bit-eq1-clause-read
returns-then-bit-eq1-clause-read c =
    let i = c.loop-bit.invariant in
    let o = one_more _ _ _ c.loop-bit.zeros c.in-Some.bit i.here i.count c.in-Some.ensures.0 c.if-bit-eq1.true in
    rw (← i.same) (code_read _ _ _ c.loop-bit.zeros c.in-Some-take.tail _ o.0 o.1 i.few c.in-Some-take.ensures.read (omega (arith, i.power, c.from.ensures)))

pub returns-then-zeros-eq31-clause-read : goal.returns-then-zeros-eq31-clause-read
returns-then-zeros-eq31-clause-read c =
    let i = c.loop-bit.invariant in
    let z = zero_more _ _ _ c.loop-bit.zeros c.in-Some.bit i.here i.count c.in-Some.ensures.0 c.in-Some.ensures.1 c.if-bit-eq1.false in
    (rw (← i.same) (code_long _ (omega (arith, z.1, c.if-zeros-eq31.true))), i.same)

pub loop-bit-preserved : goal.loop-bit-preserved
loop-bit-preserved c =
    let i = c.loop-bit.invariant in
    let z = zero_more _ _ _ c.loop-bit.zeros c.in-Some.bit i.here i.count c.in-Some.ensures.0 c.in-Some.ensures.1 c.if-bit-eq1.false in
    record {
      same = i.same;
      here = z.0;
      count = z.1;
      few = omega (arith, i.few, c.if-zeros-eq31.false);
      power = rw (power_next c.loop-bit.zeros, ← i.power) refl;
    }

pub returns-clause-read : goal.returns-clause-read
returns-clause-read c =
    let i = c.loop-bit.invariant in
    (rw (← i.same) (code_zeros _ _ c.loop-bit.zeros i.here i.count c.in_default.ensures.0), i.same)

pub returns-then-bit-eq1-clause-small : goal.returns-then-bit-eq1-clause-small
returns-then-bit-eq1-clause-small c =
    let i = c.loop-bit.invariant in
    let p : c.loop-bit.power ≤ 2147483648 = rw i.power (pow-small c.loop-bit.zeros i.few) in
    omega (arith, p, i.power, c.in-Some-take.ensures.small, c.from.ensures)

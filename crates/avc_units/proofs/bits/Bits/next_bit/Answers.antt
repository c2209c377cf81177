use Rattle.std.proofs.Common.{◌≡◌, ◌<◌, length, sym, ◌∙◌, arith, rules}
use Rattle.std.proofs.lemmas.Grind.{common_steps}
use Rattle.avc_units.proofs.Numbers.{bit_last, bit_inside, bit_none}
use Rattle.avc_units.proofs.bits.Bits.next_bit.Goals as goal

pub returns-then-is_empty : goal.returns-then-is_empty
returns-then-is_empty c =
    let none : length c.self.inside.bytes.now ≡ 0 = grind (arith, common_steps, c.is_empty.ensures, c.if-is_empty.true) in
    (sym c.self.view_is ∙ bit_none c.self.inside.bytes.now c.self.inside.bit none, search rules)

pub returns-then-self-eq7 : goal.returns-then-self-eq7
returns-then-self-eq7 c =
    let some : 0 < length c.self.inside.bytes.now = grind (arith, common_steps, c.is_empty.ensures, c.if-is_empty.false) in
    (sym c.self.view_is ∙ bit_last c.self.inside.bytes.now c.self.inside.bit c.bit_of-bit.result some c.if-self-eq7.true c.bit_of-bit.ensures.value, c.bit_of-bit.ensures.small)

pub returns-else-self-eq7 : goal.returns-else-self-eq7
returns-else-self-eq7 c =
    let some : 0 < length c.self.inside.bytes.now = grind (arith, common_steps, c.is_empty.ensures, c.if-is_empty.false) in
    let inside : c.self.inside.bit < 7 = omega (arith, c.self.invariant, c.if-self-eq7.false) in
    (sym c.self.view_is ∙ bit_inside c.self.inside.bytes.now c.self.inside.bit c.bit_of-bit.result some inside c.bit_of-bit.ensures.value, c.bit_of-bit.ensures.small)

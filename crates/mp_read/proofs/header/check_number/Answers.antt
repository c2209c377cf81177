use Rattle.std.proofs.Common.{ap, sym, refl, Some}
use Rattle.std.proofs.lemmas.Bool.{ne_eqb}
use Rattle.mp_read.proofs.Numbers.{has_own}
use Rattle.mp_read.proofs.header.check_number.Goals as goal

pub returns-then-has_number : goal.returns-then-has_number
returns-then-has_number c = λ before e.
    rw (ne_eqb c.args.number 0 c.if-number-eq0.false, has_own c.args.earlier.now before c.args.number c.has_number.result _ e c.has_number.ensures c.if-has_number.true)
    (ap Some (sym c.at-then-has_number.ensures))

pub returns : goal.returns
returns c = λ before e.
    rw (ne_eqb c.args.number 0 c.if-number-eq0.false, has_own c.args.earlier.now before c.args.number c.has_number.result _ e c.has_number.ensures c.if-has_number.false)
    refl

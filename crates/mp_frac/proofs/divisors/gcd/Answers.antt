use Rattle.mp_frac.proofs.CommonDivisors.{greatest_of_rest, greatest_with_zero}
use Rattle.mp_frac.proofs.divisors.gcd.Goals as goal

pub loop-rest-preserved : goal.loop-rest-preserved
loop-rest-preserved c = λ greatest h. c.loop-rest.invariant greatest (greatest_of_rest c.loop-rest.greater c.loop-rest.rest greatest h)

pub returns : goal.returns
returns c = c.loop-rest.invariant c.loop-rest.greater (greatest_with_zero c.loop-rest.greater c.loop-rest.rest c.loop-rest-test.false)

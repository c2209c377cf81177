use Rattle.std.proofs.Common.{arith}
use Rattle.std.proofs.lemmas.Bool.{le-ltb}
use Rattle.mp_entries.proofs.descriptor.push_group.Goals as goal

pub returns : goal.returns
returns c = λ rest all p. c.push_bytes.ensures rest all (rw (le-ltb c.args.len c.args.unit (omega (arith, c.if-len-unit.false))) at p)

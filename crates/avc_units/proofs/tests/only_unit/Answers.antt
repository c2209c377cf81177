use Rattle.std.proofs.Common.{rules}
use Rattle.avc_units.proofs.tests.only_unit.Goals as goal

pub next-requires-clause-reader : goal.next-requires-clause-reader
next-requires-clause-reader c = c.new.ensures.reader _ (search rules)

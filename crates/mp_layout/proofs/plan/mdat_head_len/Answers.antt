use Rattle.std.proofs.Common.{arith}
use Rattle.mp_layout.proofs.HeadsOfMdat.{long-head, short-head}
use Rattle.mp_layout.proofs.plan.mdat_head_len.Goals as goal

pub returns-then-payload-from-clause-len : goal.returns-then-payload-from-clause-len
returns-then-payload-from-clause-len c = (short-head c.args.payload (omega (arith, c.if-payload-from.true, c.from.ensures))).len

pub returns-then-payload-from-clause-head : goal.returns-then-payload-from-clause-head
returns-then-payload-from-clause-head c = (short-head c.args.payload (omega (arith, c.if-payload-from.true, c.from.ensures))).head

pub returns-else-payload-from-clause-len : goal.returns-else-payload-from-clause-len
returns-else-payload-from-clause-len c = (long-head c.args.payload (omega (arith, c.if-payload-from.false, c.from.ensures))).len

pub returns-else-payload-from-clause-head : goal.returns-else-payload-from-clause-head
returns-else-payload-from-clause-head c = (long-head c.args.payload (omega (arith, c.if-payload-from.false, c.from.ensures))).head

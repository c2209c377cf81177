use Rattle.std.proofs.Common.{arith}
use Rattle.std.proofs.lemmas.List.{length-drop}
use Rattle.mp_chunks.proofs.TablesAreRead.{even_half, odd_half}
use Rattle.mp_chunks.proofs.sizes.half_in.Goals as goal

pub returns-then-before-eq0 : goal.returns-then-before-eq0
returns-then-before-eq0 c = even_half c.args.body.now c.args.before _ c.if-before-eq0.true (omega (arith, c.requires, length-drop 12 c.args.body.now)) c.from-byte.ensures

pub returns-else-before-eq0 : goal.returns-else-before-eq0
returns-else-before-eq0 c = odd_half c.args.body.now c.args.before _ c.if-before-eq0.false (omega (arith, c.requires, length-drop 12 c.args.body.now)) c.from-byte.ensures

use Rattle.std.proofs.Common.{◌∙◌}
use Rattle.mp_chunks.proofs.TablesAreRead.{half_field, byte_field, pair_field}
use Rattle.mp_chunks.proofs.sizes.stz2_size.Goals as goal

pub returns-then-bits-eq4 : goal.returns-then-bits-eq4
returns-then-bits-eq4 c = half_field c.args.body.now c.args.before _ c.if-bits-eq4.true c.requires.inside c.half_in.ensures

pub returns-then-bits-eq8 : goal.returns-then-bits-eq8
returns-then-bits-eq8 c = byte_field c.args.body.now c.args.before _ c.if-bits-eq8.true c.requires.inside c.from.ensures

pub returns-else-bits-eq8 : goal.returns-else-bits-eq8
returns-else-bits-eq8 c = pair_field c.args.body.now c.args.before _ c.if-bits-eq4.false c.if-bits-eq8.false c.requires.inside (c.from-else-bits-eq8.ensures ∙ c.u16_in.ensures)

use Rattle.std.proofs.Common.{◌∙◌, sym}
use Rattle.mp_chunks.proofs.TablesAreRead.{own_size, same_size}
use Rattle.mp_chunks.proofs.sizes.stsz_size.Goals as goal

pub returns-then-common-eq0 : goal.returns-then-common-eq0
returns-then-common-eq0 c = c.u32_in.ensures ∙ own_size c.args.body.now c.args.before (sym c.u32_in-common.ensures ∙ c.if-common-eq0.true) c.requires.inside

pub returns-else-common-eq0 : goal.returns-else-common-eq0
returns-else-common-eq0 c = c.u32_in-common.ensures ∙ same_size c.args.body.now c.args.before (λ e. c.if-common-eq0.false (c.u32_in-common.ensures ∙ e)) c.requires.inside

use Rattle.std.proofs.Common.{◌∙◌}
use Rattle.mp_chunks.proofs.TablesAreRead.{wide_offset, short_offset}
use Rattle.mp_chunks.proofs.chunks.offset_in.Goals as goal

pub returns-then-wide : goal.returns-then-wide
returns-then-wide c = c.u64_in.ensures ∙ wide_offset c.args.wide c.args.body.now c.args.before c.if-wide.true c.requires.inside

pub returns-else-wide : goal.returns-else-wide
returns-else-wide c = c.from.ensures ∙ (c.u32_in.ensures ∙ short_offset c.args.wide c.args.body.now c.args.before c.if-wide.false c.requires.inside)

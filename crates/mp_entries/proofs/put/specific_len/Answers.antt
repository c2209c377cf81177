use Rattle.std.proofs.Common.{ap, refl, length, sym, ◌∙◌}
use Rattle.mp_entries.specs.Descriptor.{specific_tag}
use Rattle.mp_entries.proofs.Lengths.{specific_info-some, some_bytes}
use Rattle.mp_entries.proofs.put.specific_len.Goals as goal

pub returns-else-is_empty-clause-len : goal.returns-else-is_empty-clause-len
returns-else-is_empty-clause-len c =
    c.descriptor_len.ensures.len specific_tag c.args.info.now refl ∙ ap length (sym (specific_info-some c.args.info.now (some_bytes c.args.info.now c.if-is_empty.ensures)))

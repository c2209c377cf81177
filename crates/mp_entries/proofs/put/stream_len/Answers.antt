use Rattle.std.proofs.Common.{sym, arith}
use Rattle.mp_entries.specs.Descriptor.{decoder_tag}
use Rattle.mp_entries.specs.Esds.{decoder_body}
use Rattle.mp_entries.proofs.Lengths.{length-stream_body}
use Rattle.mp_entries.proofs.put.stream_len.Goals as goal

pub returns-clause-len : goal.returns-clause-len
returns-clause-len c =
    omega (arith, c.fields_len.ensures, c.descriptor_len.ensures.len decoder_tag (decoder_body c.args.entry.now) (sym c.decoder_len.ensures.len), length-stream_body c.args.entry.now)

use Rattle.std.proofs.Common.{sym, arith}
use Rattle.mp_entries.specs.Descriptor.{stream_tag}
use Rattle.mp_entries.specs.Esds.{stream_body}
use Rattle.mp_entries.proofs.Lengths.{esds-len}
use Rattle.mp_entries.proofs.put.esds_len.Goals as goal

pub returns-clause-len : goal.returns-clause-len
returns-clause-len c =
    let len = rw c.version_and_flags.ensures at c.box_len.ensures.len in
    omega (arith, len, c.descriptor_len.ensures.len stream_tag (stream_body c.args.entry.now) (sym c.stream_len.ensures.len), esds-len c.args.entry.now)

pub returns-clause-most : goal.returns-clause-most
returns-clause-most c =
    let len = rw c.version_and_flags.ensures at c.box_len.ensures.len in
    omega (arith, len, c.descriptor_len.ensures.most, c.stream_len.ensures.most)

use Rattle.std.proofs.Common.{arith}
use Rattle.mp_entries.proofs.EntriesArePushed.{stsd-len}
use Rattle.mp_entries.proofs.description.stsd_len.Goals as goal

pub returns : goal.returns
returns c =
    let len = rw c.version_and_flags.ensures at c.box_len.ensures.len in
    omega (arith, len, c.entries_len.ensures, stsd-len c.args.entries.now)

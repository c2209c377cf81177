use Rattle.std.proofs.Common.{map}
use Rattle.mp_entries.proofs.EntriesArePushed.{entry_row, rows_bytes, rows_fields}
use Rattle.mp_entries.proofs.description.push_stsd.Goals as goal

pub returns : goal.returns
returns c = λ rest all p.
    let entries = c.args.entries.now in
    let begun = c.begin_box.ensures.rows (map entry_row entries) (rw (c.version_and_flags.ensures, rows_fields entries) c.stsd_len.ensures) rest all (rw (c.version_and_flags.ensures, rows_fields entries) p) in
    c.push_entries.ensures rest all (rw (rows_bytes entries) at begun)

use Rattle.std.proofs.Common.{◌≡◌, ◌++◌, map}
use Rattle.mp_boxes.specs.FullBox.{rows_of}
use Rattle.mp_edits.specs.Entry.{entry_len, entry_of, segment_of}
use Rattle.mp_edits.specs.Table.{entries_fault}
use Rattle.mp_edits.proofs.Reading.{entries_from}
use Rattle.mp_edits.proofs.read.read_entries.Given as goal

-- the segments so far and those that are left are all; no entry so far has a fault
abbrev pub invariant-loop-i : goal.invariant-loop-i
invariant-loop-i l = record {
  segments : l.edits.items ++ map segment_of (entries_from l.wide l.count l.i l.bytes) ≡ map segment_of (map (entry_of l.wide) (rows_of l.count (entry_len l.wide) l.bytes));
  fault : entries_fault (entries_from l.wide l.count l.i l.bytes) ≡ entries_fault (map (entry_of l.wide) (rows_of l.count (entry_len l.wide) l.bytes));
}

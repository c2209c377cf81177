use Rattle.mp_times.proofs.LeftOut.{no_stss, one_stss}
use Rattle.mp_times.proofs.marks.push_stss.Goals as goal

pub returns-then-syncs-len : goal.returns-then-syncs-len
returns-then-syncs-len g c = λ rest all p. c.push_sync_table.ensures rest all (rw (one_stss _ _ _ c.count_syncs-syncs.ensures.count c.len.ensures.count c.if-syncs-len.true) at p)

pub returns-else-syncs-len : goal.returns-else-syncs-len
returns-else-syncs-len g c = λ rest all p. rw (no_stss _ _ _ c.count_syncs-syncs.ensures.count c.len.ensures.count c.if-syncs-len.false) at p

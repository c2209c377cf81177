use Rattle.cut_op.proofs.Seen.{cut_seen}
use Rattle.cut_op.proofs.law.cuts_are_seen.Goals as goal

pub returns : goal.returns
returns c = cut_seen c.pieces_show.ensures c.times_decide_what_is_shown.ensures c.settled_times_are_kept.ensures

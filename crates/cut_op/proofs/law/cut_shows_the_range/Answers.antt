use Rattle.cut_op.proofs.Movies.{cut_shows}
use Rattle.cut_op.proofs.law.cut_shows_the_range.Goals as goal

pub returns : goal.returns
returns c = cut_shows c.pieces_show.ensures c.times_decide_what_is_shown.ensures c.settled_times_are_kept.ensures

use Rattle.std.proofs.Common.{◌∙◌}
use Rattle.avc_order.proofs.Counting.{lower-small}
use Rattle.avc_order.proofs.rank.rank_in.Goals as goal

pub returns-clause-small : goal.returns-clause-small
returns-clause-small c = rw (c.lower_in.ensures ∙ c.requires.same _) (lower-small c.args.counts.now c.args.at c.requires.within)

use Rattle.std.proofs.Common.{[], ◌∷◌}
use Rattle.track_ops.proofs.Summaries.{divisor_joined}
use Rattle.track_ops.proofs.ticks.with_start.Goals as goal

pub returns-in-Media : goal.returns-in-Media
returns-in-Media c = λ more divisor is. rw c.in-Media.is (divisor_joined (c.args.number ∷ c.in-Media.start ∷ []) more c.gcd.result divisor c.gcd.ensures is)

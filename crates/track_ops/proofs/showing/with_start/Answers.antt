use Rattle.std.proofs.Common.{[], ◌∷◌}
use Rattle.track_ops.proofs.Summaries.{divisor_joined}
use Rattle.track_ops.proofs.WideDivisors.{some_divisor}
use Rattle.track_ops.proofs.showing.with_start.Goals as goal

pub returns-in-Some-clause-some : goal.returns-in-Some-clause-some
returns-in-Some-clause-some c = some_divisor c.args.number c.in-Some.start c.common_divisor.result c.requires c.common_divisor.ensures

pub returns-in-Some-clause-common : goal.returns-in-Some-clause-common
returns-in-Some-clause-common c = λ more divisor is. rw c.in-Some.is (divisor_joined (c.args.number ∷ c.in-Some.start ∷ []) more c.common_divisor.result divisor c.common_divisor.ensures is)

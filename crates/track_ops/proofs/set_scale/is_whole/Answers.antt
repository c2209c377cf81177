use Rattle.track_ops.proofs.WholeTicks.{by_divisor}
use Rattle.track_ops.proofs.set_scale.is_whole.Goals as goal

pub returns : goal.returns
returns c = λ ticks common. rw (c.from.ensures, c.from-2.ensures, c.from-3.ensures) (by_divisor c.args.old c.args.new c.args.divisor ticks common)

use Rattle.std.proofs.Common.{rules}
use Rattle.track_ops.proofs.SignedTicks.{long_told}
use Rattle.track_ops.proofs.ticks.is_long_in.Goals as goal

pub returns : goal.returns
returns c = long_told c.args.old c.args.new c.args.column.now c.largest_in.result _ c.requires c.largest_in.ensures (search rules)

use Rattle.std.proofs.Common.{[], arith}
use Rattle.track_ops.proofs.wide.whole_extent.Goals as goal

pub overflow_cast-result : goal.overflow_cast-result
overflow_cast-result c = omega (arith, c.extent.ensures.latest [], c.requires.media [])

use Rattle.track_ops.proofs.LeastScales.{settles}
use Rattle.track_ops.proofs.law.least_scales_are_found.Goals as goal

pub returns : goal.returns
returns c = settles c.wholeness_is_division.ensures

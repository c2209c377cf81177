use Rattle.std.proofs.Common.{map, rules}
use Rattle.std.specs.Prelude.{unsigned_abs}
use Rattle.mp_clip.specs.Clipped.{starts}
use Rattle.mp_edits.specs.EditBox.{segments_in}
use Rattle.track_ops.proofs.Starts.{common_moved, divisor_of_three}
use Rattle.track_ops.proofs.ticks.divisor_of.Goals as goal

pub returns : goal.returns
returns c =
    divisor_of_three (map unsigned_abs c.args.track.now.deltas) (map unsigned_abs c.args.track.now.offsets) (starts (segments_in c.args.track.now.edits)) _ _ c.gcd-samples.result c.divisor_of_starts.result
    (common_moved _ _ _ (search rules) c.common_divisor.ensures) (common_moved _ _ _ (search rules) c.common_divisor-2.ensures) c.gcd-samples.ensures (search rules)

use Rattle.std.proofs.Common.{rules}
use Rattle.track_ops.proofs.SignedTicks.{whole_moved}
use Rattle.track_ops.proofs.ticks.retime.Goals as goal

pub rescale_column-requires-clause-whole : goal.rescale_column-requires-clause-whole
rescale_column-requires-clause-whole c = whole_moved _ _ _ _ _ (search rules) (search rules) c.requires.columns.whole

pub rescale_column-requires-2-clause-whole : goal.rescale_column-requires-2-clause-whole
rescale_column-requires-2-clause-whole c = whole_moved _ _ _ _ _ (search rules) (search rules) c.requires.columns.whole_offsets

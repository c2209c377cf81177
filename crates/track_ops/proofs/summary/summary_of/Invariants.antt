use Rattle.std.proofs.Common.{take}
use Rattle.track_ops.specs.Kept.{kept_chosen}
use Rattle.track_ops.specs.Summed.{IsSummary}
use Rattle.track_ops.proofs.summary.summary_of.Given as goal

-- of the tracks so far
abbrev pub invariant-loop-track : goal.invariant-loop-track
invariant-loop-track l = IsSummary (kept_chosen l.choice (take l.track-index l.tracks)) l.summary

use Rattle.track_ops.specs.Kept.{with_head_at}
use Rattle.track_ops.proofs.Changing.{IsChangedSoFar}
use Rattle.track_ops.proofs.heads.change_all.Given as goal

abbrev pub invariant-loop-track : goal.invariant-loop-track
invariant-loop-track l = IsChangedSoFar (with_head_at l.number l.change) l.tracks l.fn.tracks l.track-index

use Rattle.std.proofs.Common.{◌≡◌, drop}
use Rattle.track_ops.specs.Kept.{has_number}
use Rattle.track_ops.proofs.tracks.position_of.Given as goal

-- none so far has the number
abbrev pub invariant-loop-at : goal.invariant-loop-at
invariant-loop-at l = has_number l.number l.tracks ≡ has_number l.number (drop l.at l.tracks)

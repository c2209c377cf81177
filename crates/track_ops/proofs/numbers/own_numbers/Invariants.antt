use Rattle.std.proofs.Common.{◌≡◌, take}
use Rattle.track_ops.specs.Kept.{kept_numbers}
use Rattle.track_ops.proofs.numbers.own_numbers.Given as goal

-- the numbers of the tracks so far
abbrev pub invariant-loop-track : goal.invariant-loop-track
invariant-loop-track l = l.numbers.items ≡ kept_numbers (take l.track-index l.tracks)

use Rattle.std.proofs.Common.{◌≡◌, take}
use Rattle.mp_boxes.specs.Table.{capped}
use Rattle.mp_movie.specs.Placed.{payload_len}
use Rattle.mp_movie.proofs.sums.payload_of.Given as goal

-- the bytes of the tracks so far
abbrev pub invariant-loop-track : goal.invariant-loop-track
invariant-loop-track l = l.bytes ≡ capped (payload_len (take l.track-index l.tracks))

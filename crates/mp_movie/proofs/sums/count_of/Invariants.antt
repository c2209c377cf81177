use Rattle.std.proofs.Common.{◌≡◌, take}
use Rattle.mp_boxes.specs.Table.{capped}
use Rattle.mp_movie.specs.Placed.{sample_count}
use Rattle.mp_movie.proofs.sums.count_of.Given as goal

-- the samples of the tracks so far
abbrev pub invariant-loop-track : goal.invariant-loop-track
invariant-loop-track l = l.count ≡ capped (sample_count (take l.track-index l.tracks))

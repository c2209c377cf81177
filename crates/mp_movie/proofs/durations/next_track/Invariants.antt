use Rattle.std.proofs.Common.{◌≡◌, max, map, drop}
use Rattle.mp_movie.specs.Durations.{greatest}
use Rattle.mp_movie.proofs.DurationsByColumns.{numbers_of}
use Rattle.mp_movie.proofs.durations.next_track.Given as goal

-- the greatest so far, and those of the tracks that are left
abbrev pub invariant-loop-track : goal.invariant-loop-track
invariant-loop-track l = max l.greatest (greatest (numbers_of (drop l.track-index l.track-items))) ≡ greatest (numbers_of l.track-items)

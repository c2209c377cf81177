use Rattle.std.proofs.Common.{◌≡◌, ℕ, List, max, map, drop}
use Rattle.mp_movie.specs.Durations.{greatest}
use Rattle.mp_movie.proofs.DurationsByColumns.{duration_for}
use Rattle.mp_movie.proofs.durations.longest.Given as goal

-- the longest so far, and those of the tracks that are left
abbrev pub invariant-loop-track : goal.invariant-loop-track
invariant-loop-track l = (files : List (List ℕ)) →
    max l.longest (greatest (map (duration_for l.movie_scale files) (drop l.track-index l.tracks))) ≡ greatest (map (duration_for l.movie_scale files) l.tracks)

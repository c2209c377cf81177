use Rattle.std.proofs.Common.{◌≡◌, drop}
use Rattle.std.specs.List.{list_any}
use Rattle.mp_movie.specs.PartsFit.{passes}
use Rattle.mp_movie.proofs.limits.some_passes.Given as goal

-- none of the tracks so far passes it
abbrev pub invariant-loop-track : goal.invariant-loop-track
invariant-loop-track l = list_any (passes l.code) l.tracks ≡ list_any (passes l.code) (drop l.track-index l.tracks)

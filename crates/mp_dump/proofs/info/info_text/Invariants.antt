use Rattle.std.proofs.Common.{ℕ, List}
use Rattle.std.specs.List.{flat_map}
use Rattle.mp_timeline.specs.Movie.{TrackRecord}
use Rattle.mp_dump.specs.Info.{track_line}
use Rattle.mp_dump.proofs.TracksAreWritten.{AreToldOf}
use Rattle.mp_dump.proofs.info.info_text.Given as goal

-- the lines of the tracks that are left
abbrev pub left : ℕ → List TrackRecord → List ℕ
left index tracks = flat_map track_line tracks

abbrev pub invariant-loop-track : goal.invariant-loop-track
invariant-loop-track l = AreToldOf left l.movie l.track-items l.track-index l.out.items l.initial.out.items

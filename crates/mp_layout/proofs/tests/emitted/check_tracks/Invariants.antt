use Rattle.std.proofs.Common.{All, take}
use Rattle.mp_pieces.specs.Copied.{sizes_of}
use Rattle.mp_movie.specs.StandsFor.{HoldTrack}
use Rattle.mp_layout.proofs.tests.emitted.check_tracks.Given as goal

-- the tracks so far are held
abbrev pub invariant-loop-track : goal.invariant-loop-track
invariant-loop-track g l = All (HoldTrack (sizes_of (g.F.Folder.state l.folder))) (take l.track-index l.tracks)

use Rattle.std.proofs.Common.{sym, subst, List}
use Rattle.std.specs.Prelude.{All}
use Rattle.mp_movie.specs.Placed.{PlacedTrack}
use Rattle.mp_dump.specs.Track.{IsTold}
use Rattle.mp_dump.proofs.TracksAreTold.{tracks_are_told}
use Rattle.mp_dump.proofs.info.tracks_of.Goals as goal

pub returns-clause-told : goal.returns-clause-told
returns-clause-told c = subst (λ (tracks : List PlacedTrack). All IsTold tracks) (sym c.tracks.ensures.tracks) (tracks_are_told _ c.tracks.ensures.whole)

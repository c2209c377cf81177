use Rattle.std.proofs.Common.{◌<◌, List, sym, subst}
use Rattle.std.specs.List.{AllByRecursion}
use Rattle.mp_movie.specs.Placed.{PlacedTrack}
use Rattle.mp_movie.specs.WholeParts.{AreColumns}
use Rattle.mp_movie.proofs.DurationsByColumns.{scales_are}
use Rattle.mp_movie.proofs.durations.movie_duration.Goals as goal

pub longest-requires-clause-columns : goal.longest-requires-clause-columns
longest-requires-clause-columns c = subst (λ (tracks : List PlacedTrack). AllByRecursion AreColumns tracks) (sym c.tracks.ensures.tracks) c.tracks.ensures.whole.columns

pub longest-requires-clause-scales : goal.longest-requires-clause-scales
longest-requires-clause-scales c =
    subst (λ (tracks : List PlacedTrack). AllByRecursion (λ track. 0 < track.scale) tracks) (sym c.tracks.ensures.tracks) (scales_are c.args.movie.now.scale c.args.movie.now.tracks c.tracks.ensures.whole.bare.tracks)

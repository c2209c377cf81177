use Rattle.mp_movie.proofs.PartsFitMovies.{limits_are_of_tracks}
use Rattle.mp_movie.proofs.law.limits_are_of_tracks.Goals as goal

pub returns : goal.returns
returns c = limits_are_of_tracks

use Rattle.mp_movie.proofs.PartsAreMovies.{well_formed}
use Rattle.mp_movie.proofs.PartsFitMovies.{fits, limited}
use Rattle.mp_movie.proofs.law.parts_stand_for_movies.Goals as goal

pub returns : goal.returns
returns c = record {
  well_formed = λ files movie. well_formed files movie;
  fits = λ files movie. fits files movie;
  limited = λ files movie. limited files movie;
}

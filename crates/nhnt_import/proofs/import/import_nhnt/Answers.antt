use Rattle.nhnt_import.proofs.Joining.{movie_told}
use Rattle.nhnt_import.proofs.import.import_nhnt.Goals as goal

pub returns-clause-movie : goal.returns-clause-movie
returns-clause-movie g c = movie_told _ _ _ _ _ _ c.read_pair.ensures.size c.read_pair.ensures.places

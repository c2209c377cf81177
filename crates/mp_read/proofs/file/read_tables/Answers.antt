use Rattle.mp_read.proofs.LongMovies.{too_long}
use Rattle.mp_read.proofs.WithinFile.{movie_inside}
use Rattle.mp_read.proofs.file.read_tables.Goals as goal

pub returns-then-found-gt-MOST_MOOV-clause-movie : goal.returns-then-found-gt-MOST_MOOV-clause-movie
returns-then-found-gt-MOST_MOOV-clause-movie g c =
    too_long _ c.size-size.result c.in_ok-found.found _ c.in_ok-found.ensures.found c.size-size.ensures.told (rw (← c.size-size.ensures.size) at c.in_ok-found.ensures.inside) c.if-found-gt-MOST_MOOV.true c.at.ensures

pub returns-clause-inside : goal.returns-clause-inside
returns-clause-inside g c = rw (← c.size-size.ensures.size) (movie_inside c.size-size.result _ _ c.in_ok-read_bytes.ensures.movie)

use Rattle.std.proofs.Common.{[]}
use Rattle.std.specs.Prelude.{get_or}
use Rattle.avc_import.proofs.Making.{movie_is, movie_lies, movie_past, shots_have, shots_pass, shots_refused}
use Rattle.avc_import.proofs.film.movie_of.Goals as goal

pub returns-in-Err-clause-movie : goal.returns-in-Err-clause-movie
returns-in-Err-clause-movie c = λ file size told j files. shots_refused file size c.args.rate (get_or files file []) j.known c.in-Err.fail (c.in-Err.ensures file size told j)

pub first_limit-requires : goal.first_limit-requires
first_limit-requires c = shots_have c.args.judged c.args.rate c.in-Ok.shots c.requires.judged c.in-Ok.ensures

pub returns-in-Some-clause-movie : goal.returns-in-Some-clause-movie
returns-in-Some-clause-movie c = λ file size told j files.
    movie_past file size told c.args.rate (get_or files file []) c.args.judged c.in-Ok.shots c.in-Some.code _ j c.in-Ok.ensures c.in-Some.ensures c.at.ensures

pub film_movie-requires : goal.film_movie-requires
film_movie-requires c = shots_pass c.args.judged c.args.rate c.in-Ok.shots c.requires.judged c.in-Ok.ensures c.in-None.ensures

pub returns-in-Ok-film_movie-clause-movie : goal.returns-in-Ok-film_movie-clause-movie
returns-in-Ok-film_movie-clause-movie c = λ file size told j files.
    movie_is file size told c.args.rate files c.args.judged c.in-Ok.shots c.in-Ok-film_movie.movie j c.a_sample_follows.ensures c.in-Ok.ensures c.in-None.ensures c.in-Ok-film_movie.ensures

pub returns-in-Ok-film_movie-clause-lies : goal.returns-in-Ok-film_movie-clause-lies
returns-in-Ok-film_movie-clause-lies c = λ file size told j.
    movie_lies file size told c.args.rate c.args.judged c.in-Ok.shots c.in-Ok-film_movie.movie j c.in-Ok.ensures c.in-Ok-film_movie.ensures

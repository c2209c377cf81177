use Rattle.std.proofs.Common.{sym, subst, ◌∙◌}
use Rattle.mp_movie.specs.WholeParts.{AreParts}
use Rattle.mp_read.proofs.MoviesAreRead.{movie_lies, movie_read}
use Rattle.mp_read.proofs.read.read_movie.Goals as goal

pub from_parts-requires-clause-whole : goal.from_parts-requires-clause-whole
from_parts-requires-clause-whole g c = subst AreParts (sym c.in_ok-parts.ensures) (c.tables_are_parts.ensures.parts c.args.file _ c.in-Ok.tables c.in-Ok.ensures.read)

pub returns-clause-movie : goal.returns-clause-movie
returns-clause-movie g c = movie_read c.tables_stand_for_movies.ensures _ c.args.file c.in-Ok.tables c.from_parts.result c.in-Ok.ensures.movie (c.from_parts.ensures ∙ c.in_ok-parts.ensures)

pub returns-clause-inside : goal.returns-clause-inside
returns-clause-inside g c = movie_lies c.args.file _ c.in-Ok.tables c.from_parts.result c.in-Ok.ensures.inside (c.from_parts.ensures ∙ c.in_ok-parts.ensures)

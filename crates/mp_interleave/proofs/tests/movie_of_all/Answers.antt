use Rattle.std.proofs.Common.{sym, subst}
use Rattle.mp_timeline.specs.Movie.{MovieHeadRecord}
use Rattle.mp_movie.specs.Placed.{plain_scale}
use Rattle.mp_movie.specs.WholeParts.{AreParts}
use Rattle.mp_interleave.proofs.tests.movie_of_all.Goals as goal

pub from_parts-requires-clause-whole : goal.from_parts-requires-clause-whole
from_parts-requires-clause-whole c =
    subst (λ (head : MovieHeadRecord). AreParts (record { scale = plain_scale; head = head; tracks = c.args.tracks.items })) (sym c.plain.ensures) c.requires

use Rattle.std.proofs.Common.{◌≡◌, length}
use Rattle.mp_movie.specs.WholeParts.{AreTrackParts}
use Rattle.cut_op.proofs.tests.movie_of.Given as goal

abbrev pub invariant-loop-sample : goal.invariant-loop-sample
invariant-loop-sample g l = AreTrackParts l.film.0 l.track × (length l.track.entries ≡ 1)

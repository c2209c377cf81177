use Rattle.std.proofs.Common.{◌≡◌, length}
use Rattle.mp_movie.specs.Placed.{plain_scale}
use Rattle.mp_movie.specs.WholeParts.{AreTrackParts}
use Rattle.mp_interleave.proofs.tests.track_of.Given as goal

abbrev pub invariant-loop-delta : goal.invariant-loop-delta
invariant-loop-delta g l = AreTrackParts plain_scale l.track × (length l.track.entries ≡ 2) × (l.track.number ≡ l.number)

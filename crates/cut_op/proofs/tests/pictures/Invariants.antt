use Rattle.std.proofs.Common.{◌≡◌, length}
use Rattle.mp_movie.specs.WholeParts.{AreTrackParts}
use Rattle.cut_op.proofs.tests.pictures.Given as goal

abbrev pub invariant-loop-number : goal.invariant-loop-number
invariant-loop-number g l = AreTrackParts 1000 l.track × (length l.track.entries ≡ 1)

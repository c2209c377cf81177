use Rattle.std.proofs.Common.{◌≡◌, length}
use Rattle.mp_movie.specs.WholeParts.{AreTrackParts}
use Rattle.cut_op.proofs.tests.sound.Given as goal

abbrev pub invariant-loop : goal.invariant-loop
invariant-loop g l = AreTrackParts 1000 l.track × (length l.track.entries ≡ 1)

use Rattle.std.proofs.Common.{◌≡◌, length}
use Rattle.mp_movie.specs.Placed.{plain_scale}
use Rattle.mp_movie.specs.WholeParts.{AreTrackParts}
use Rattle.mp_layout.proofs.tests.layouts.track_of.Given as goal

-- the parts, the one entry and the number of the track so far
abbrev pub invariant-loop-size : goal.invariant-loop-size
invariant-loop-size g l = AreTrackParts plain_scale l.track × (length l.track.entries ≡ 1) × (l.track.number ≡ l.number)

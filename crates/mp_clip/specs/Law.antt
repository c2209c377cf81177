-- Pieces can be told in the scales of their shape, and in multiples of these, as far to the front as the least start; and common
-- divisors give scales.
use Rattle.std.specs.Prelude.{ℕ, ◌+◌, ◌*◌, ◌/◌, ◌^◌, ◌<◌, ◌≤◌, List, ◌∷◌}
use Rattle.mp_frac.specs.Divisors.{IsGreatestCommon, most, up_to}
use Rattle.mp_timeline.specs.declared.segment.Segment.{Segment}
use Rattle.mp_clip.specs.declared.shape.ClipShape.{ClipShape}
use Rattle.mp_movie.specs.Settling.{Settles}
use Rattle.mp_clip.specs.Clipped.{CanTell, as_times}
use Rattle.mp_clip.specs.Shape.{IsShape}

-- where the total is below 2^62 there, and the greatest start less than 2^62 behind `back`
abbrev pub ShapesCanBeTold : Type 0
ShapesCanBeTold =
    (media movie unit : ℕ) (pieces : List Segment) (shape : ClipShape) (by movie_by back : ℕ) → IsShape media movie unit pieces shape → 0 < by → 0 < movie_by
    → back ≤ shape.least * by → shape.greatest * by < 2 ^ 62 + back → shape.total * movie_by < 2 ^ 62
    → CanTell unit (shape.media_scale * by) (shape.movie_scale * movie_by) back pieces

-- the scale times the parts that a common divisor leaves of its tick is the least multiple in which numbers of parts are whole
abbrev pub DivisorsGiveScales : Type 0
DivisorsGiveScales =
    (scale parts divisor : ℕ) (numbers : List ℕ) → 0 < scale → 0 < parts → IsGreatestCommon (parts ∷ numbers) divisor
    → Settles scale (as_times (scale * parts) numbers) (up_to most (scale * (parts / divisor)))

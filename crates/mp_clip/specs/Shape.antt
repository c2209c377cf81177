-- Which scales the pieces of an edit list need, and how far they reach.
use Rattle.std.specs.Prelude.{ℕ, ◌⊎◌, min, pos, List, [], ◌∷◌, map, Option, Some, None}
use Rattle.mp_frac.specs.declared.time.Frac.{Frac}
use Rattle.mp_timeline.specs.declared.segment.Segment.{Segment}
use Rattle.mp_timeline.specs.Same.{IsSameTicks}
use Rattle.mp_edits.specs.Segments.{duration, total}
use Rattle.mp_movie.specs.Durations.{greatest}
use Rattle.mp_movie.specs.Settling.{Settles}
use Rattle.mp_clip.specs.declared.shape.ClipShape.{ClipShape}
use Rattle.mp_clip.specs.Clipped.{as_times, clipped, starts, unit}

-- the least number, 0 where there is none
abbrev pub least : List ℕ → ℕ
least [] = 0
least (number ∷ []) = number
least (number ∷ other ∷ numbers) = min number (least (other ∷ numbers))

-- the least multiples of the scales in which the starts and the durations of the pieces are whole, how long the pieces last together,
-- and their least and greatest start in the media, in these scales
pub record IsShape (media movie unit : ℕ) (pieces : List Segment) (shape : ClipShape) : Type 0 where
  pub media_scale : Settles media (as_times unit (starts pieces)) (Some shape.media_scale)
  pub movie_scale : Settles movie (as_times unit (map duration pieces)) (Some shape.movie_scale)
  pub total : IsSameTicks unit shape.movie_scale (pos (total pieces)) (pos shape.total)
  pub least : IsSameTicks unit shape.media_scale (pos (least (starts pieces))) (pos shape.least)
  pub greatest : IsSameTicks unit shape.media_scale (pos (greatest (starts pieces))) (pos shape.greatest)

-- the shape of the pieces; none exactly where one of the two multiples is above the greatest scale
abbrev pub GivesShape : (media movie unit : ℕ) → List Segment → Option ClipShape → Type 0
GivesShape media movie unit pieces (Some shape) = IsShape media movie unit pieces shape
GivesShape media movie unit pieces None = Settles media (as_times unit (starts pieces)) None ⊎ Settles movie (as_times unit (map duration pieces)) None

-- the shape of the pieces of an edit list
abbrev pub ClipsTo : (media movie : ℕ) → (from to : Frac) → List Segment → Option ClipShape → Type 0
ClipsTo media movie from to edits shape = GivesShape media movie (unit media movie from to) (clipped media movie from to edits) shape

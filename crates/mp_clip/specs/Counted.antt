-- What is counted of pieces, one after another.
use Rattle.std.specs.Prelude.{◌≡◌, ℕ, ◌+◌, ◌<◌, min, max, List, ◌∷◌, ◌++◌, Option, Some, None}
use Rattle.mp_frac.specs.Divisors.{IsGreatestCommon}
use Rattle.mp_movie.specs.Durations.{greatest}
use Rattle.mp_clip.specs.declared.cut.Cut.{Cut}
use Rattle.mp_clip.specs.declared.tally.Tally.{Tally}
use Rattle.mp_clip.specs.Cut.{cut_starts, cut_lengths, cut_total, listed}
use Rattle.mp_clip.specs.Shape.{least}

-- what is counted so far, and what is left, make what is counted of all
pub record IsCounted (start_parts length_parts : ℕ) (all : List Cut) (tally : Tally) (left : List Cut) : Type 0 where
  pub starts : (divisor : ℕ) → IsGreatestCommon (tally.starts ∷ cut_starts left) divisor → IsGreatestCommon (start_parts ∷ cut_starts all) divisor
  pub lengths : (divisor : ℕ) → IsGreatestCommon (tally.lengths ∷ cut_lengths left) divisor → IsGreatestCommon (length_parts ∷ cut_lengths all) divisor
  pub some_starts : 0 < tally.starts
  pub some_lengths : 0 < tally.lengths
  pub total : tally.total + cut_total left ≡ cut_total all
  pub least : least (listed tally.least ++ cut_starts left) ≡ least (cut_starts all)
  pub greatest : max tally.greatest (greatest (cut_starts left)) ≡ greatest (cut_starts all)

-- the lower of a number that may be missing and another
abbrev pub lower : Option ℕ → ℕ → Option ℕ
lower None number = Some number
lower (Some least) number = Some (min least number)

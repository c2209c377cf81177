-- What the tracks of two movies come to together: the scale that they get, and the limits.
use Rattle.std.specs.Prelude.{◌≡◌, ℕ, pos, ◌+◌, ◌-◌, ◌^◌, ◌<◌, min, max, false, List, [], ◌∷◌, ◌++◌, length, map, Option, Some, None, Result, Err, if◌then◌else◌}
use Rattle.std.specs.List.{list_any}
use Rattle.mp_frac.specs.declared.time.Frac.{Frac}
use Rattle.mp_frac.specs.Divisors.{IsGreatestCommon}
use Rattle.mp_frac.specs.Time.{in_ticks}
use Rattle.mp_ports.specs.declared.code.Code.{Code}
use Rattle.mp_ports.specs.declared.code.Code.TheVariants.{IdLimit, NoTrack, ScaleLimit}
use Rattle.mp_ports.specs.Checks.{unless}
use Rattle.mp_edits.specs.EditBox.{segments_in}
use Rattle.mp_edits.specs.Segments.{duration}
use Rattle.mp_movie.specs.Durations.{greatest}
use Rattle.mp_movie.specs.Placed.{PlacedTrack, PlacedMovie, sample_count}
use Rattle.mp_movie.specs.PartsFit.{first_limit}
use Rattle.track_ops.specs.declared.summary.Summary.{Summary}
use Rattle.track_ops.specs.Adding.{is_above}
use Rattle.track_ops.specs.Kept.{kept_durations, kept_joined, kept_lead, kept_numbers, lasts}
use Rattle.track_ops.specs.Numbers.{numbers_for}
use Rattle.track_ops.specs.Scales.{settled}

-- the number in 64 bits, the last of which stands for all that don't fit
abbrev pub within : ℕ → ℕ
within number = min number (2 ^ 64 - 1)

-- what these tracks are together
pub record IsSummary (those : List PlacedTrack) (summary : Summary) : Type 0 where
  pub tracks : summary.tracks ≡ within (length those)
  pub samples : summary.samples ≡ within (sample_count those)
  pub divisor : IsGreatestCommon (kept_durations those) summary.divisor
  pub longest : summary.longest ≡ within (greatest (map lasts those))

-- what they are with one track more
pub record IsSummaryMore (before : Summary) (track : PlacedTrack) (summary : Summary) : Type 0 where
  pub tracks : summary.tracks ≡ within (before.tracks + 1)
  pub samples : summary.samples ≡ within (before.samples + length track.deltas)
  pub divisor : IsGreatestCommon (before.divisor ∷ map duration (segments_in track.edits)) summary.divisor
  pub longest : summary.longest ≡ max before.longest (within (lasts track))

-- the durations of the edits of these tracks, in a movie of that scale
abbrev pub kept_times : ℕ → List PlacedTrack → List Frac
kept_times scale tracks = map (λ ticks. in_ticks (pos ticks) scale) (kept_durations tracks)

-- the scale that a movie gets, unless it passes a limit there
abbrev pub kept_scale : (ℕ → PlacedMovie) → Option ℕ → Result ℕ Code
kept_scale in_scale None = Err ScaleLimit
kept_scale in_scale (Some scale) = unless (first_limit (in_scale scale)) scale

-- the scale of the movie with the tracks that are added
abbrev pub joined_scale : PlacedMovie → PlacedMovie → List PlacedTrack → Result ℕ Code
joined_scale movie other tracks =
    kept_scale (kept_joined movie other tracks (numbers_for (kept_numbers movie.tracks) (kept_numbers tracks)))
    (settled (kept_lead movie other).scale (kept_times movie.scale movie.tracks ++ kept_times other.scale tracks))

-- the same, behind the refusals of the command
abbrev pub added_scale : PlacedMovie → PlacedMovie → List PlacedTrack → Result ℕ Code
added_scale movie other [] = Err NoTrack
added_scale movie other tracks =
    if list_any is_above (numbers_for (kept_numbers movie.tracks) (kept_numbers tracks)) then Err IdLimit
    else joined_scale movie other tracks

-- how tracks are added: the numbers of all tracks, none above 32 bits, and a scale
pub record IsPlan (movie : PlacedMovie) (tracks : List PlacedTrack) (scale : ℕ) (all : List ℕ) : Type 0 where
  pub numbers : all ≡ kept_numbers movie.tracks ++ numbers_for (kept_numbers movie.tracks) (kept_numbers tracks)
  pub below : list_any is_above (numbers_for (kept_numbers movie.tracks) (kept_numbers tracks)) ≡ false
  pub some : 0 < scale

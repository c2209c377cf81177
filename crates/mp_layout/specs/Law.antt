-- The law of the format: the file of a movie presents the movie.
use Rattle.std.specs.Prelude.{◌≡◌, ℕ, Some, None}
use Rattle.mp_timeline.specs.Movie.{MovieRecord}
use Rattle.mp_movie.specs.WellFormed.{IsWellFormed}
use Rattle.mp_movie.specs.Limits.{Fits}
use Rattle.mp_movie.specs.Present.{Presents, first_fault, present}
use Rattle.mp_layout.specs.File.{HasShortMoov, file_bytes}

-- for each well-formed movie within the limits, its samples in windows of any length: no check of the file fails, and read by the
-- standard's definitions it presents the movie exactly, and so the same movie
pub record FilesPresentMovies : Type 0 where
  pub sound : (movie : MovieRecord) (millis : ℕ) → IsWellFormed movie → Fits movie → HasShortMoov movie millis → first_fault (file_bytes movie millis) ≡ None
  pub exact : (movie : MovieRecord) (millis : ℕ) → IsWellFormed movie → Fits movie → HasShortMoov movie millis → present (file_bytes movie millis) ≡ Some movie
  pub same : (movie : MovieRecord) (millis : ℕ) → IsWellFormed movie → Fits movie → HasShortMoov movie millis → Presents (file_bytes movie millis) movie

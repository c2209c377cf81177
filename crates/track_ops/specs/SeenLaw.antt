-- The law of what a viewer gets: a command makes of a movie what it says of its tracks and moments.
use Rattle.std.specs.Prelude.{◌≡◌, ℕ, ◌<◌, ◌==◌, ℤ, List, Ok}
use Rattle.std.specs.List.{AllZip}
use Rattle.mp_timeline.specs.Movie.{MovieRecord}
use Rattle.mp_timeline.specs.Same.{HasScales}
use Rattle.mp_movie.specs.WellFormed.{AreDistinct}
use Rattle.track_ops.specs.declared.chosen.Choice.{Choice}
use Rattle.track_ops.specs.declared.heads.HeadChange.{HeadChange}
use Rattle.track_ops.specs.Adding.{add}
use Rattle.track_ops.specs.Delay.{delay}
use Rattle.track_ops.specs.Later.{ShowsDelayed}
use Rattle.track_ops.specs.Moments.{AreSeenAs, View, with_added, with_delayed, with_removed}
use Rattle.track_ops.specs.Numbers.{numbers_of}
use Rattle.track_ops.specs.SetScales.{set_movie_scale, set_track_scale}
use Rattle.track_ops.specs.Tracks.{change_head, remove}

-- what a delay shows: that of the number later, all others as before
abbrev pub ShowDelayed : ℕ → ℤ → MovieRecord → MovieRecord → Type 0
ShowDelayed number ms movie made = AllZip (λ track other. ShowsDelayed (track.number == number) ms movie.scale made.scale track other) movie.tracks made.tracks

-- where a movie is seen as views say, what a command makes of it is seen as the command says; a change of a head or of a scale says
-- nothing
pub record CommandsAreSeen : Type 0 where
  pub add : (choice : Choice) (other movie made : MovieRecord) (views : List View) → HasScales other → add choice other movie ≡ Ok made
      → AreSeenAs movie views → AreSeenAs made (with_added choice other views)
  pub remove : (number : ℕ) (movie made : MovieRecord) (views : List View) → remove number movie ≡ Ok made
      → AreSeenAs movie views → AreSeenAs made (with_removed number views)
  pub head : (number : ℕ) (change : HeadChange) (movie made : MovieRecord) (views : List View) → change_head number change movie ≡ Ok made
      → AreSeenAs movie views → AreSeenAs made views
  pub delay : (number : ℕ) (ms : ℤ) (movie made : MovieRecord) (views : List View) → delay number ms movie ≡ Ok made → ShowDelayed number ms movie made
      → AreSeenAs movie views → AreSeenAs made (with_delayed number ms views)
  pub track_scale : (number scale : ℕ) (movie made : MovieRecord) (views : List View) → 0 < scale → AreDistinct (numbers_of movie.tracks)
      → set_track_scale number scale movie ≡ Ok made → AreSeenAs movie views → AreSeenAs made views
  pub movie_scale : (scale : ℕ) (movie made : MovieRecord) (views : List View) → 0 < scale → set_movie_scale scale movie ≡ Ok made
      → AreSeenAs movie views → AreSeenAs made views

-- What a track shows that is shown later or earlier.
use Rattle.std.specs.Prelude.{◌≡◌, ℕ, ◌*◌, ◌<◌, ℤ, pos, ◌+ℤ◌, ◌*ℤ◌, true, Bool, false, ◌==◌, List, [], length, map}
use Rattle.std.specs.List.{AllZip}
use Rattle.mp_frac.specs.declared.time.Frac.{Frac}
use Rattle.mp_frac.specs.Time.{IsSameTime, in_ticks}
use Rattle.mp_timeline.specs.Movie.{TrackRecord}
use Rattle.mp_edits.specs.Segments.{total}
use Rattle.mp_movie.specs.Placed.{PlacedMovie}
use Rattle.mp_movie.specs.StandsFor.{Hold, stands_for}
use Rattle.mp_shown.specs.Fractions.{is_before}
use Rattle.mp_shown.specs.Law.{ShowsTheSame}
use Rattle.mp_shown.specs.Segments.{explicit}
use Rattle.mp_shown.specs.Shown.{shown}

-- a time, so many milliseconds later
abbrev pub later : ℤ → Frac → Frac
later ms time = record { n = time.n *ℤ pos 1000 +ℤ ms *ℤ pos time.d; d = time.d * 1000 }

-- how long a track of a movie is shown
abbrev pub lasting_time : (movie : ℕ) → TrackRecord → Frac
lasting_time movie track = in_ticks (pos (total (explicit movie track 1))) (movie * track.scale)

-- the one track shows nothing before that time, and then what the other does; it lasts so much longer
pub record ShowsLater (ms : ℤ) (movie other_movie : ℕ) (track other : TrackRecord) : Type 0 where
  pub before : (n d : ℕ) → 0 < d → is_before (in_ticks (pos n) d) (in_ticks ms 1000) ≡ true → shown other_movie other n d ≡ []
  pub after : (n d m e : ℕ) → IsSameTime (in_ticks (pos m) e) (later ms (in_ticks (pos n) d)) → shown other_movie other m e ≡ shown movie track n d
  pub total : IsSameTime (lasting_time other_movie other) (later ms (lasting_time movie track))

-- the track of the number does, each other one shows the same as before
abbrev pub ShowsDelayed : (is_delayed : Bool) → ℤ → (movie other_movie : ℕ) → (track other : TrackRecord) → Type 0
ShowsDelayed true ms movie other_movie track other = ShowsLater ms movie other_movie track other
ShowsDelayed false ms movie other_movie track other = ShowsTheSame movie other_movie track other

-- so it is for all files that hold the movie's pieces
abbrev pub DelaysShown : ℕ → ℤ → (old new : PlacedMovie) → Type 0
DelaysShown number ms old new =
    (files : List (List ℕ)) → Hold (map length files) old
    → AllZip (λ track other. ShowsDelayed (track.number == number) ms old.scale new.scale track other) (stands_for files old).tracks (stands_for files new).tracks

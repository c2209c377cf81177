-- What a viewer gets: what commands say of tracks and of each moment, by the last command and what was seen before it, without a look
-- at samples (this project's own).
use Rattle.std.specs.Prelude.{◌≡◌, ℕ, ◌==◌, ◌<◌, ℤ, pos, neg_ℤ, unsigned_abs, not, List, [], ◌++◌, map, if◌then◌else◌}
use Rattle.std.specs.List.{AllZip, filter}
use Rattle.mp_frac.specs.declared.time.Frac.{Frac}
use Rattle.mp_frac.specs.Time.{IsSameTime, in_ticks}
use Rattle.mp_timeline.specs.Movie.{TrackRecord, MovieRecord}
use Rattle.mp_shown.specs.Fractions.{is_before}
use Rattle.mp_shown.specs.Shown.{Seen, shown}
use Rattle.track_ops.specs.declared.chosen.Choice.{Choice}
use Rattle.track_ops.specs.Adding.{chosen, renumbered}
use Rattle.track_ops.specs.Later.{lasting_time, later}
use Rattle.track_ops.specs.Numbers.{numbers_for, numbers_of}

-- a track as it is seen: its number, its handler, how long it is shown, and what it shows at a moment, which isn't before 0
pub record View : Type 0 where
  pub number : ℕ
  pub handler : List ℕ
  pub length : Frac
  pub show : Frac → List Seen

-- of a track in a movie of that scale
abbrev pub view_of : (movie : ℕ) → TrackRecord → View
view_of movie track = record {
  number = track.number;
  handler = track.head.handler;
  length = lasting_time movie track;
  show = λ moment. shown movie track (unsigned_abs moment.n) moment.d;
}

-- the numbers of tracks, in order
abbrev pub view_numbers : List View → List ℕ
view_numbers views = map (λ view. view.number) views

-- the tracks that are added, with the numbers that they get there
abbrev pub added_views : List ℕ → (movie : ℕ) → List TrackRecord → List View
added_views taken movie tracks = map (view_of movie) (renumbered (numbers_for taken (numbers_of tracks)) tracks)

-- the chosen tracks of another movie follow
abbrev pub with_added : Choice → MovieRecord → List View → List View
with_added choice other views = views ++ added_views (view_numbers views) other.scale (chosen choice other.tracks)

-- all but that of the number
abbrev pub with_removed : ℕ → List View → List View
with_removed number views = filter (λ view. not (view.number == number)) views

-- so many milliseconds later, or earlier: nothing before that time, and then what was shown so much earlier
abbrev pub shown_later : ℤ → View → View
shown_later ms view = record view {
  length = later ms view.length;
  show = λ moment. if is_before moment (in_ticks ms 1000) then [] else view.show (later (neg_ℤ ms) moment);
}

-- that of the number is
abbrev pub with_delayed : ℕ → ℤ → List View → List View
with_delayed number ms views = map (λ view. if view.number == number then shown_later ms view else view) views

-- a track of a movie of that scale is seen so, at every moment n / d
pub record IsSeenAs (movie : ℕ) (track : TrackRecord) (view : View) : Type 0 where
  pub number : track.number ≡ view.number
  pub handler : track.head.handler ≡ view.handler
  pub length : IsSameTime (lasting_time movie track) view.length
  pub shown : (n d : ℕ) → 0 < d → shown movie track n d ≡ view.show (in_ticks (pos n) d)

-- so is each track of a movie, in their order
abbrev pub AreSeenAs : MovieRecord → List View → Type 0
AreSeenAs movie views = AllZip (IsSeenAs movie.scale) movie.tracks views

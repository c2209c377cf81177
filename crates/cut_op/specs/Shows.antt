-- What a movie that was cut shows at a moment (this project's own).
use Rattle.std.specs.Prelude.{◌≡◌, ℕ, ◌+◌, ◌-◌, ◌*◌, ◌<◌, min, pos, unsigned_abs, [], if◌then◌else◌}
use Rattle.std.specs.List.{AllZip}
use Rattle.mp_frac.specs.declared.time.Frac.{Frac}
use Rattle.mp_frac.specs.Time.{in_ticks}
use Rattle.mp_timeline.specs.Movie.{TrackRecord, MovieRecord}
use Rattle.mp_edits.specs.Segments.{total}
use Rattle.mp_shown.specs.Fractions.{is_before}
use Rattle.mp_shown.specs.Segments.{explicit}
use Rattle.mp_shown.specs.Shown.{shown}
use Rattle.mp_clip.specs.Clipped.{unit}

-- from + n / d
abbrev pub behind : Frac → (n d : ℕ) → Frac
behind from n d = in_ticks (pos (unsigned_abs from.n * d + n * from.d)) (from.d * d)

-- how long a track is shown, in the unit of which a second has `unit track.scale movie from to`
abbrev pub length_in : (movie : ℕ) → (from to : Frac) → TrackRecord → ℕ
length_in movie from to track = total (explicit movie track (from.d * to.d))

-- a track of the cut movie has the number, head and entries of the one that was cut. At n / d seconds it shows what that one shows
-- n / d seconds behind `from`, if that is before `to`, and nothing else. It lasts as long as that one has a part in the range
pub record ShowsRange (from to : Frac) (movie new_movie : ℕ) (track new : TrackRecord) : Type 0 where
  pub number : new.number ≡ track.number
  pub head : new.head ≡ track.head
  pub entries : new.entries ≡ track.entries
  pub shown : (n d : ℕ) → 0 < d
      → shown new_movie new n d ≡ (let at = behind from n d in if is_before at to then shown movie track (unsigned_abs at.n) at.d else [])
  pub total : total (explicit new_movie new 1) * unit track.scale movie from to
      ≡ (min (length_in movie from to track) (unsigned_abs to.n * movie * (from.d * track.scale)) - unsigned_abs from.n * movie * (to.d * track.scale)) * (new_movie * new.scale)

-- each track of the cut movie shows the range of the one in its place
pub record MovieShowsRange (from to : Frac) (movie new : MovieRecord) : Type 0 where
  pub head : new.head ≡ movie.head
  pub tracks : AllZip (ShowsRange from to movie.scale new.scale) movie.tracks new.tracks

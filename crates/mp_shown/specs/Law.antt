-- What is shown depends on times alone, and not on the scales that tell them.
use Rattle.std.specs.Prelude.{◌≡◌, ℕ, ◌+◌, ◌-◌, ◌*◌, ◌<◌, ◌≤◌, min, pos, ◌*ℤ◌, List, map, None, option_map}
use Rattle.std.specs.List.{AllZip}
use Rattle.mp_frac.specs.Time.{IsSameTime, in_ticks}
use Rattle.mp_timeline.specs.declared.segment.Segment.{Segment}
use Rattle.mp_timeline.specs.Movie.{SampleRecord, TrackRecord}
use Rattle.mp_timeline.specs.Same.{IsSameTicks, IsSameSample, IsSameEdits}
use Rattle.mp_edits.specs.Segments.{total}
use Rattle.mp_movie.specs.Durations.{extent}
use Rattle.mp_shown.specs.Segments.{explicit, in_unit, pieces}
use Rattle.mp_shown.specs.Shown.{media_time, shown, shown_numbers}
use Rattle.mp_shown.specs.Fractions.{IsShownByFractions}

-- a track of a movie and one of another have the same samples and edits at the same times, whatever their scales
pub record HasSameTimes (movie other_movie : ℕ) (track other : TrackRecord) : Type 0 where
  pub some_movie : 0 < movie
  pub some_other_movie : 0 < other_movie
  pub some_scale : 0 < track.scale
  pub some_other_scale : 0 < other.scale
  pub entries : track.entries ≡ other.entries
  pub samples : AllZip (IsSameSample track.scale other.scale) track.samples other.samples
  pub edits : IsSameEdits movie other_movie track.scale other.scale track.edits other.edits

-- they show the same at the same moments, for the same time in all, and their media ends at the same time
pub record ShowsTheSame (movie other_movie : ℕ) (track other : TrackRecord) : Type 0 where
  pub shown : (n d m e : ℕ) → IsSameTime (in_ticks (pos n) d) (in_ticks (pos m) e) → shown movie track n d ≡ shown other_movie other m e
  pub numbers : (n d m e : ℕ) → IsSameTime (in_ticks (pos n) d) (in_ticks (pos m) e) → shown_numbers movie track n d ≡ shown_numbers other_movie other m e
  pub total : IsSameTicks (movie * track.scale) (other_movie * other.scale) (pos (total (explicit movie track 1))) (pos (total (explicit other_movie other 1)))
  pub extent : IsSameTicks track.scale other.scale (pos (extent track.samples)) (pos (extent other.samples))

-- a sample whose times are so many times as many ticks
abbrev pub finer_sample : ℕ → SampleRecord → SampleRecord
finer_sample by sample = record sample { decode = sample.decode * by; dur = sample.dur * by; comp = sample.comp *ℤ pos by }

-- a track in multiples of its scale and of its movie's scale
abbrev pub finer_track : (by movie_by : ℕ) → TrackRecord → TrackRecord
finer_track by movie_by track = record track {
  scale = track.scale * by;
  samples = map (finer_sample by) track.samples;
  edits = option_map (map (in_unit by movie_by)) track.edits;
}

-- where times are the same, the same is shown; so it is of one track at equal fractions, and in multiples of its scales
pub record ShowsByTimes : Type 0 where
  pub same : (movie other_movie : ℕ) (track other : TrackRecord) → HasSameTimes movie other_movie track other → ShowsTheSame movie other_movie track other
  pub itself : (movie : ℕ) (track : TrackRecord) → 0 < movie → 0 < track.scale → HasSameTimes movie movie track track
  pub finer : (movie : ℕ) (track : TrackRecord) (by movie_by : ℕ) → 0 < movie → 0 < track.scale → 0 < by → 0 < movie_by
      → HasSameTimes movie (movie * movie_by) track (finer_track by movie_by track)

-- what a track shows, in one unit, is what comparing times as fractions says
abbrev pub ShowsByFractions : Type 0
ShowsByFractions = (movie : ℕ) (track : TrackRecord) (n d : ℕ) → 0 < movie → 0 < track.scale → 0 < d → IsShownByFractions movie track n d

-- pieces show in their time what the whole shows in the range, and nothing after it; they last as long as the range, as far as the whole goes
pub record PiecesShow : Type 0 where
  pub within : (segments : List Segment) (from to moment : ℕ) → from + moment < to → media_time (pieces from to segments) moment ≡ media_time segments (from + moment)
  pub after : (segments : List Segment) (from to moment : ℕ) → to ≤ from + moment → media_time (pieces from to segments) moment ≡ None
  pub total : (segments : List Segment) (from to : ℕ) → from ≤ to → total (pieces from to segments) ≡ min to (total segments) - min from (total segments)

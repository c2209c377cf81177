-- A track whose times, the durations of its edits too, are all in ticks of its scale, in ticks of other scales (this project's own).
use Rattle.std.specs.Prelude.{◌≡◌, true, ℕ, ◌<◌, List, [], ◌∷◌, map, Option, Some, None, option_map}
use Rattle.std.specs.List.{list_all}
use Rattle.mp_frac.specs.declared.time.Frac.{Frac}
use Rattle.mp_timeline.specs.declared.segment.Segment.{Segment}
use Rattle.mp_timeline.specs.declared.segment.Segment.TheVariants.{Empty}
use Rattle.mp_timeline.specs.Movie.{TrackRecord}
use Rattle.mp_shown.specs.Law.{HasSameTimes}
use Rattle.track_ops.specs.Delay.{told}
use Rattle.track_ops.specs.Scales.{edit_times, is_whole, settled}
use Rattle.track_ops.specs.Ticks.{sample_in_scale, track_times}

-- such a track in ticks of another scale of its own, in a movie of that scale
abbrev pub told_track : (media movie : ℕ) → TrackRecord → TrackRecord
told_track media movie track = record track {
  scale = media;
  samples = map (sample_in_scale track.scale media) track.samples;
  edits = option_map (map (told track.scale media movie)) track.edits;
}

-- the segments, or one of no time where there is none
abbrev pub or_empty : List Segment → List Segment
or_empty [] = Empty 0 ∷ []
or_empty (segment ∷ segments) = segment ∷ segments

-- what each of these is, where each is something
abbrev pub all_some : {A : Type 0} → List (Option A) → Option (List A)
all_some [] = Some []
all_some (None ∷ options) = None
all_some (Some item ∷ options) = option_map (λ items. item ∷ items) (all_some options)

-- a scale above 0, in which these times are whole
pub record IsSettled (times : List Frac) (scale : ℕ) : Type 0 where
  pub some : 0 < scale
  pub whole : list_all (is_whole scale) times ≡ true

-- the least multiple that serves is such a scale, and a track told in scales in which its times are whole has the same times
pub record SettledTimesAreKept : Type 0 where
  pub serves : (old : ℕ) (times : List Frac) (scale : ℕ) → 0 < old → settled old times ≡ Some scale → IsSettled times scale
  pub told : (media movie : ℕ) (track : TrackRecord) → 0 < track.scale → IsSettled (track_times track) media → IsSettled (edit_times track.scale track) movie
      → HasSameTimes track.scale movie track (told_track media movie track)

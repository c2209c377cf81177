-- A track that is cut to a range of time, all its times in one unit (this project's own; edits by ISO/IEC 14496-12, 8.6.6).
use Rattle.std.specs.Prelude.{ℕ, ◌-◌, ◌*◌, pos, ◌+ℤ◌, ◌-ℤ◌, unsigned_abs, List, [], ◌∷◌, map, Some}
use Rattle.mp_frac.specs.declared.time.Frac.{Frac}
use Rattle.mp_timeline.specs.declared.segment.Segment.{Segment}
use Rattle.mp_timeline.specs.Movie.{SampleRecord, TrackRecord}
use Rattle.mp_edits.specs.Segments.{shifted}
use Rattle.mp_shown.specs.Segments.{explicit, pieces}
use Rattle.mp_shown.specs.Law.{finer_sample}
use Rattle.mp_clip.specs.Clipped.{starts, unit}
use Rattle.mp_clip.specs.Shape.{least}
use Rattle.track_ops.specs.Told.{or_empty}
use Rattle.cut_op.specs.Needed.{kept_samples}

-- the pieces, from one time up to another, of the segments that a track shows, in the unit of which a second has
-- `unit track.scale movie from to`; that is the track's edit list, or its whole media
abbrev pub track_pieces : (movie : ℕ) → (from to : Frac) → TrackRecord → List Segment
track_pieces movie from to track =
    pieces (unsigned_abs from.n * movie * (to.d * track.scale)) (unsigned_abs to.n * movie * (from.d * track.scale)) (explicit movie track (from.d * to.d))

-- the samples of a track in that unit
abbrev pub track_samples : (movie : ℕ) → (from to : Frac) → TrackRecord → List SampleRecord
track_samples movie from to track = map (finer_sample (movie * (from.d * to.d))) track.samples

-- when the first of some samples is decoded, 0 where there is none
abbrev pub first_decode : List SampleRecord → ℕ
first_decode [] = 0
first_decode (sample ∷ samples) = sample.decode

-- how far the first kept sample is decoded behind the first time of the media that is shown; 0 where it is decoded before it
abbrev pub late_by : (segments : List Segment) → (samples : List SampleRecord) → ℕ
late_by segments samples = first_decode samples - least (starts segments)

-- a sample whose decode time falls by `first`, and whose composition time changes by `late` less `first`
abbrev pub moved_sample : (first late : ℕ) → SampleRecord → SampleRecord
moved_sample first late sample = record sample { decode = sample.decode - first; comp = sample.comp +ℤ (pos late -ℤ pos first) }

-- the track of these samples and segments, decoded from 0 on; starts move with composition times, and none falls below 0
abbrev pub moved_track : (unit : ℕ) → List Segment → List SampleRecord → TrackRecord → TrackRecord
moved_track unit segments samples track =
    let first = first_decode samples in
    let late = late_by segments samples in
    record track {
      scale = unit;
      samples = map (moved_sample first late) samples;
      edits = Some (or_empty (map (shifted (pos late -ℤ pos first)) segments));
    }

-- the track cut to the range: of its segments the pieces, of its samples those that are kept for them. Its number, head and entries stay
abbrev pub cut_track : (movie : ℕ) → (from to : Frac) → TrackRecord → TrackRecord
cut_track movie from to track =
    let segments = track_pieces movie from to track in
    moved_track (unit track.scale movie from to) segments (kept_samples segments (track_samples movie from to track)) track

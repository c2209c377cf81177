-- A track in ticks of another scale of its own (ISO/IEC 14496-12, 8.4.2 and 8.6).
use Rattle.std.specs.Prelude.{ℕ, ℤ, pos, ◌*ℤ◌, int_div, List, [], ◌∷◌, ◌++◌, map, option_map}
use Rattle.std.specs.List.{flat_map}
use Rattle.mp_frac.specs.declared.time.Frac.{Frac}
use Rattle.mp_frac.specs.Time.{in_ticks}
use Rattle.mp_timeline.specs.declared.segment.Segment.{Segment}
use Rattle.mp_timeline.specs.declared.segment.Segment.TheVariants.{Empty, Media}
use Rattle.mp_timeline.specs.Movie.{SampleRecord, TrackRecord}
use Rattle.mp_edits.specs.EditBox.{segments_in}
use Rattle.mp_clip.specs.Clipped.{as_times, starts}
use Rattle.track_ops.specs.Scales.{in_scale}

-- so many ticks of the old scale, which may lie before 0, in ticks of the new one
abbrev pub signed_in_scale : ℕ → ℕ → ℤ → ℤ
signed_in_scale old new ticks = int_div (ticks *ℤ pos new) (pos old)

-- a sample whose times are in ticks of another scale
abbrev pub sample_in_scale : ℕ → ℕ → SampleRecord → SampleRecord
sample_in_scale old new sample = record sample {
  decode = in_scale old new sample.decode;
  dur = in_scale old new sample.dur;
  comp = signed_in_scale old new sample.comp;
}

-- a segment whose start is in ticks of another scale of the track
abbrev pub starting : ℕ → ℕ → Segment → Segment
starting old new (Empty dur) = Empty dur
starting old new (Media start dur) = Media (in_scale old new start) dur

-- a track in ticks of that scale
abbrev pub in_track_scale : ℕ → TrackRecord → TrackRecord
in_track_scale new track = record track {
  scale = new;
  samples = map (sample_in_scale track.scale new) track.samples;
  edits = option_map (map (starting track.scale new)) track.edits;
}

-- the decode time, the duration and the composition time of a sample
abbrev pub sample_times : ℕ → SampleRecord → List Frac
sample_times scale sample = in_ticks (pos sample.decode) scale ∷ in_ticks (pos sample.dur) scale ∷ in_ticks sample.comp scale ∷ []

-- the times that a track's scale tells: those of its samples, and where its edits start
abbrev pub track_times : TrackRecord → List Frac
track_times track = flat_map (sample_times track.scale) track.samples ++ as_times track.scale (starts (segments_in track.edits))

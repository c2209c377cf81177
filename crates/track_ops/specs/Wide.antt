-- Segments in one unit, with numbers above 64 bits.
use Rattle.std.specs.Prelude.{◌≡◌, ℕ, ◌+◌, ◌<◌, ◌^◌, false, List, length, map, Option, Some, None}
use Rattle.std.specs.List.{AllByRecursion, list_any}
use Rattle.mp_timeline.specs.declared.segment.Segment.{Segment}
use Rattle.mp_timeline.specs.declared.segment.Segment.TheVariants.{Empty, Media}
use Rattle.mp_edits.specs.EditBox.{segments_in}
use Rattle.mp_edits.specs.Segments.{starts_late, total}
use Rattle.mp_movie.specs.Durations.{extent}
use Rattle.mp_movie.specs.Placed.{PlacedTrack}
use Rattle.mp_movie.specs.StandsFor.{samples_of}
use Rattle.mp_movie.specs.WholeParts.{AreColumns}
use Rattle.mp_clip.specs.Clipped.{starts}
use Rattle.track_ops.specs.declared.wide.Wide.{Wide}

-- a segment from that start on, or an empty one
abbrev pub segment_from : Option ℕ → ℕ → Segment
segment_from None length = Empty length
segment_from (Some start) length = Media start length

-- the segment that is kept so
abbrev pub as_segment : Wide → Segment
as_segment wide = segment_from wide.start wide.length

-- the segments
abbrev pub as_segments : List Wide → List Segment
as_segments wides = map as_segment wides

-- 128 bits hold all times of the track in such a unit
pub record CanWiden (track : PlacedTrack) : Type 0 where
  pub columns : AreColumns track
  pub media : (files : List (List ℕ)) → extent (samples_of files track) < 2 ^ 64
  pub short : total (segments_in track.edits) < 2 ^ 62
  pub early : list_any starts_late (segments_in track.edits) ≡ false

-- so late no segment starts in such a unit that 128 bits don't hold it so much later
abbrev pub CanStartBehind : ℕ → List Wide → Type 0
CanStartBehind time wides = AllByRecursion (λ start. start + time < 2 ^ 128) (starts (as_segments wides))

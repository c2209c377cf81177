-- The limits of a movie (this project's own, where the standard's fields don't set them).
use Rattle.std.specs.Prelude.{◌≡◌, ℕ, ◌^◌, ◌<◌, ◌≤◌, false, List, length, IfSome}
use Rattle.std.specs.List.{AllByRecursion, list_any, sum_by}
use Rattle.mp_columns.specs.declared.columns.TheConstants.{MOST_ITEMS}
use Rattle.mp_times.specs.Written.{FitOffsets}
use Rattle.mp_timeline.specs.declared.segment.Segment.{Segment}
use Rattle.mp_timeline.specs.Movie.{TrackRecord, MovieRecord}
use Rattle.mp_entries.specs.Description.{most_entries}
use Rattle.mp_edits.specs.Segments.{most_segments, starts_late, total}
use Rattle.mp_movie.specs.Columns.{composition_offsets}

-- the most tracks of a movie
abbrev pub most_tracks : ℕ
most_tracks = 64

-- an edit list lasts less than 2^62 ticks, each segment starts before tick 2^62, and there aren't too many
pub record FitsEdits (edits : List Segment) : Type 0 where
  pub short : total edits < 2 ^ 62
  pub early : list_any starts_late edits ≡ false
  pub few : length edits ≤ most_segments

-- durations and sizes fit 32 bits, composition offsets too, all without a sign or all with one
pub record FitsTrack (track : TrackRecord) : Type 0 where
  pub durations : AllByRecursion (λ sample. sample.dur < 2 ^ 32) track.samples
  pub offsets : FitOffsets (composition_offsets track.samples)
  pub edits : IfSome track.edits FitsEdits
  pub sizes : AllByRecursion (λ sample. length sample.bytes < 2 ^ 32) track.samples
  pub entries : length track.entries ≤ most_entries

-- and there are neither too many samples nor too many tracks
pub record Fits (movie : MovieRecord) : Type 0 where
  pub each : AllByRecursion FitsTrack movie.tracks
  pub samples : sum_by (λ track. length track.samples) movie.tracks ≤ MOST_ITEMS
  pub tracks : length movie.tracks ≤ most_tracks

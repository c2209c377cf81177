-- The first limit that a movie passes, and the answer of a command behind its own refusals.
use Rattle.std.specs.Prelude.{pos, [], map, Option, Some, None, Result, Err}
use Rattle.mp_ports.specs.declared.code.Code.{Code}
use Rattle.mp_ports.specs.declared.code.Code.TheVariants.{ScaleLimit}
use Rattle.mp_ports.specs.Checks.{unless}
use Rattle.mp_timeline.specs.Movie.{TrackRecord, MovieRecord}
use Rattle.mp_movie.specs.Columns.{composition_offsets, durations, entry_numbers, sizes, sync_marks}
use Rattle.mp_movie.specs.Placed.{PlacedTrack}
use Rattle.mp_movie.specs.PartsFit.{first_limit}

-- a track by the columns of its samples, without pieces
abbrev pub by_columns : TrackRecord → PlacedTrack
by_columns track = record {
  number = track.number;
  head = track.head;
  scale = track.scale;
  entries = track.entries;
  deltas = durations track.samples;
  offsets = composition_offsets track.samples;
  syncs = sync_marks track.samples;
  kinds = entry_numbers track.samples;
  sizes = map pos (sizes track.samples);
  counts = [];
  pieces = [];
  edits = track.edits;
}

-- the first limit that a movie passes, in the order of the codes over all tracks
abbrev pub limit : MovieRecord → Option Code
limit movie = first_limit (record { scale = movie.scale; head = movie.head; tracks = map by_columns movie.tracks })

-- the movie, unless it passes a limit
abbrev pub within_limits : MovieRecord → Result MovieRecord Code
within_limits movie = unless (limit movie) movie

-- what a command makes of the scale that serves: `ScaleLimit` where each is above the greatest, else the movie within its limits
abbrev pub settled_to : {Scale : Type 0} → (Scale → MovieRecord) → Option Scale → Result MovieRecord Code
settled_to in_scale None = Err ScaleLimit
settled_to in_scale (Some scale) = within_limits (in_scale scale)

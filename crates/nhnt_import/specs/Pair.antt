-- The movie of an NHNT pair, or its first fault.
use Rattle.std.specs.Prelude.{ℕ, ◌-◌, ◌-ℤ◌, pos, List, [], ◌∷◌, length, map, take, drop, zip, Option, Some, None, Result}
use Rattle.mp_ports.specs.Checks.{unless}
use Rattle.mp_ports.specs.declared.fault.Bad.{Bad}
use Rattle.mp_ports.specs.Folder.{FolderState, opened_at}
use Rattle.mp_timeline.specs.Movie.{SampleRecord, TrackRecord, MovieRecord}
use Rattle.mp_timeline.specs.Plain.{plain_movie_head, plain_track_head}
use Rattle.nhnt_import.specs.declared.head.Head.{Head}
use Rattle.nhnt_import.specs.declared.unit.AccessUnit.{AccessUnit}
use Rattle.nhnt_import.specs.Head.{head_of}
use Rattle.nhnt_import.specs.Unit.{is_sync, units_in}
use Rattle.nhnt_import.specs.Times.{durations}
use Rattle.nhnt_import.specs.Entry.{entry_bytes, handler}
use Rattle.nhnt_import.specs.Fault.{pair_fault}

-- the sample of a unit, which lasts so long: its times are less the decode time of the first unit
abbrev pub sample : List ℕ → ℕ → AccessUnit → ℕ → SampleRecord
sample media first unit duration = record {
  bytes = take unit.len (drop unit.from media);
  decode = unit.decode - first;
  dur = duration;
  comp = pos unit.composition -ℤ pos first;
  sync = is_sync unit;
  entry = 1;
}

-- the samples of a pair, one for each unit
unfoldable pub samples : List ℕ → List AccessUnit → List SampleRecord
samples media [] = []
samples media (unit ∷ units) =
    map (λ pair. sample media unit.decode pair.0 pair.1) (zip (unit ∷ units) (durations (unit ∷ units)))

-- a track of sound or pictures with one entry, in the ticks of the table
abbrev pub pair_track : Head → List ℕ → List SampleRecord → TrackRecord
pair_track head info samples = record {
  number = 1;
  head = plain_track_head (handler head);
  scale = head.scale;
  entries = entry_bytes head info ∷ [];
  samples = samples;
  edits = None;
}

-- a movie of one such track, in milliseconds
abbrev pub movie_of : Head → List ℕ → List SampleRecord → MovieRecord
movie_of head info samples = record { scale = 1000; head = plain_movie_head; tracks = pair_track head info samples ∷ [] }

-- the movie of the bytes of a table, a `.media` file and an `.info` file, or their first fault; `info` has none where there is no such file
abbrev pub pair_movie : List ℕ → List ℕ → List ℕ → Result MovieRecord Bad
pair_movie table media info =
    unless (pair_fault (length media) table info) (movie_of (head_of table) info (samples media (units_in table)))

-- the bytes of an `.info` file, where they are told: none where there is no such file
abbrev pub info_bytes : FolderState → Option ℕ → Option (List ℕ)
info_bytes s None = Some []
info_bytes s (Some file) = (opened_at s file).bytes

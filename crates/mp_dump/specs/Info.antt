-- What is said of a movie: a line for the movie, and one for each track.
use Rattle.std.specs.Prelude.{ℕ, ◌%◌, ◌==◌, List, [], ◌∷◌, ◌++◌, length, sum, codes, decimal, if◌then◌else◌, Option, None, Some}
use Rattle.std.specs.List.{flat_map, sum_by}
use Rattle.mp_timeline.specs.declared.segment.Segment.{Segment}
use Rattle.mp_timeline.specs.Movie.{SampleRecord, TrackRecord, MovieRecord}
use Rattle.mp_movie.specs.Columns.{sizes}
use Rattle.mp_movie.specs.Durations.{media_duration, movie_duration}
use Rattle.mp_dump.specs.Words.{entry_type, field, language_text, type_text}

-- the scale, the duration that the header states, and the number of tracks
unfoldable pub movie_line : MovieRecord → List ℕ
movie_line movie =
    field (codes "movie scale ") movie.scale ++ field (codes " duration ") (movie_duration movie)
    ++ field (codes " tracks ") (length movie.tracks) ++ codes "\n"

-- the type of the first entry, if there is one
abbrev pub first_type : List (List ℕ) → List ℕ
first_type [] = codes "none"
first_type (entry ∷ entries) = entry_type entry

-- how many samples are sync samples
abbrev pub sync_count : List SampleRecord → ℕ
sync_count samples = sum_by (λ sample. if sample.sync then 1 else 0) samples

-- whether the track is enabled (ISO/IEC 14496-12, 8.3.2: the lowest bit of its flags)
abbrev pub enabled_text : ℕ → List ℕ
enabled_text flags = if flags % 2 == 1 then codes "enabled" else codes "disabled"

-- how many segments the edit list has, if there is one
abbrev pub edits_text : Option (List Segment) → List ℕ
edits_text None = codes "none"
edits_text (Some edits) = decimal (length edits)

-- a track: its number, handler, first entry and scale
unfoldable pub track_text : TrackRecord → List ℕ
track_text track =
    field (codes "track ") track.number ++ codes " handler " ++ type_text track.head.handler
    ++ codes " entry " ++ first_type track.entries ++ field (codes " scale ") track.scale

-- how many samples and sync samples it has, their bytes and their duration
unfoldable pub samples_text : TrackRecord → List ℕ
samples_text track =
    field (codes " samples ") (length track.samples) ++ field (codes " sync ") (sync_count track.samples)
    ++ field (codes " bytes ") (sum (sizes track.samples)) ++ field (codes " duration ") (media_duration track)

-- its language, whether it is enabled, and its edits
unfoldable pub settings_text : TrackRecord → List ℕ
settings_text track =
    codes " language " ++ language_text track.head.language ++ codes " " ++ enabled_text track.head.flags
    ++ codes " edits " ++ edits_text track.edits ++ codes "\n"

-- the line of a track
unfoldable pub track_line : TrackRecord → List ℕ
track_line track = track_text track ++ samples_text track ++ settings_text track

-- all of it
abbrev pub info : MovieRecord → List ℕ
info movie = movie_line movie ++ flat_map track_line movie.tracks

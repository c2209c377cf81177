-- What a movie presents as one JSON object, and a line end. The keys stand in the order of their bytes.
use Rattle.std.specs.Prelude.{ℕ, ◌%◌, ◌==◌, List, [], ◌∷◌, ◌++◌, map, codes, if◌then◌else◌, Option, None, Some}
use Rattle.serde_json.specs.Data.{Data, Items, null, boolean, number, unsigned, string, array, object, item, no_items, member, no_members}
use Rattle.serde_json.specs.Find.{of_integer}
use Rattle.serde_json.specs.Written.{compact_text}
use Rattle.mp_timeline.specs.declared.segment.Segment.{Segment}
use Rattle.mp_timeline.specs.declared.segment.Segment.TheVariants.{Empty, Media}
use Rattle.mp_timeline.specs.Movie.{TrackRecord, MovieRecord}
use Rattle.mp_movie.specs.Durations.{movie_duration}
use Rattle.mp_dump.specs.declared.row.Row.{Row}
use Rattle.mp_dump.specs.Row.{row_of}
use Rattle.mp_dump.specs.Words.{entry_type, language_text, type_text}

-- a list, each element by its own value
abbrev pub items : {A : Type 0} → (A → Data) → List A → Items
items value [] = no_items
items value (x ∷ xs) = item (value x) (items value xs)

-- size, decode time, duration, composition time, 1 or 0 for a sync sample or another one, and entry
unfoldable pub row_value : Row → Data
row_value row =
    array
    (item (number (unsigned row.size))
    (item (number (unsigned row.decode))
    (item (number (unsigned row.dur))
    (item (number (of_integer row.comp))
    (item (number (unsigned (if row.sync then 1 else 0)))
    (item (number (unsigned row.entry)) no_items))))))

-- a segment; an empty one has no start
unfoldable pub segment_value : Segment → Data
segment_value (Empty dur) =
    object (member (codes "duration") (number (unsigned dur)) (member (codes "start") null no_members))
segment_value (Media start dur) =
    object (member (codes "duration") (number (unsigned dur)) (member (codes "start") (number (unsigned start)) no_members))

-- the edit list, if there is one
abbrev pub edits_value : Option (List Segment) → Data
edits_value None = null
edits_value (Some edits) = array (items segment_value edits)

-- a track
unfoldable pub track_value : TrackRecord → Data
track_value track = object
    (member (codes "edits") (edits_value track.edits)
    (member (codes "enabled") (boolean (track.head.flags % 2 == 1))
    (member (codes "entries") (array (items (λ entry. string (entry_type entry)) track.entries))
    (member (codes "handler") (string (type_text track.head.handler))
    (member (codes "language") (string (language_text track.head.language))
    (member (codes "number") (number (unsigned track.number))
    (member (codes "samples") (array (items row_value (map row_of track.samples)))
    (member (codes "scale") (number (unsigned track.scale)) no_members))))))))

-- a movie
unfoldable pub movie_value : MovieRecord → Data
movie_value movie = object
    (member (codes "duration") (number (unsigned (movie_duration movie)))
    (member (codes "scale") (number (unsigned movie.scale))
    (member (codes "tracks") (array (items track_value movie.tracks)) no_members)))

-- the compact text of it
abbrev pub json : MovieRecord → List ℕ
json movie = compact_text (movie_value movie) ++ codes "\n"

-- The segments that a track shows one after another, and their parts in a range (ISO/IEC 14496-12, 8.6.6).
use Rattle.std.specs.Prelude.{ℕ, ◌+◌, ◌-◌, ◌*◌, min, nat_lt, if◌then◌else◌, List, [], ◌∷◌, map, Option, Some, None}
use Rattle.mp_timeline.specs.declared.segment.Segment.{Segment}
use Rattle.mp_timeline.specs.declared.segment.Segment.TheVariants.{Empty, Media}
use Rattle.mp_timeline.specs.Movie.{TrackRecord}
use Rattle.mp_edits.specs.Segments.{duration}
use Rattle.mp_movie.specs.Durations.{extent}

-- a segment in a finer unit: a tick of its start has so many of them, and a tick of its duration so many
abbrev pub in_unit : ℕ → ℕ → Segment → Segment
in_unit of_start of_duration (Empty dur) = Empty (dur * of_duration)
in_unit of_start of_duration (Media start dur) = Media (start * of_start) (dur * of_duration)

-- the media from its start on, for so long: no segment where that is no time
abbrev pub whole_media : ℕ → List Segment
whole_media length = if nat_lt 0 length then Media 0 length ∷ [] else []

-- an edit list, or the whole media where there is none, in such a unit
abbrev pub segments_of : (of_start of_duration length : ℕ) → Option (List Segment) → List Segment
segments_of of_start of_duration length None = whole_media (length * of_start)
segments_of of_start of_duration length (Some edits) = map (in_unit of_start of_duration) edits

-- the segments that a track shows: its edit list, or its whole media up to the latest end of a sample. All times are in one unit, of which
-- a second has movie * scale * d, so that a tick of the track, a tick of the movie and a moment n / d are whole numbers of it
abbrev pub explicit : (movie : ℕ) → TrackRecord → (d : ℕ) → List Segment
explicit movie track d = segments_of (movie * d) (track.scale * d) (extent track.samples) track.edits

-- what lies of a segment behind `from` and before `to`: a start in the media grows by what is cut off in front
abbrev pub part : Segment → ℕ → ℕ → Segment
part (Empty dur) from to = Empty (to - from)
part (Media start dur) from to = Media (start + from) (to - from)

-- of each segment its part in the range, where that is some time
abbrev pub pieces : (from to : ℕ) → List Segment → List Segment
pieces from to [] = []
pieces from to (segment ∷ segments) =
    let length = duration segment in
    let rest = pieces (from - length) (to - length) segments in
    if nat_lt (min from length) (min to length) then part segment (min from length) (min to length) ∷ rest else rest

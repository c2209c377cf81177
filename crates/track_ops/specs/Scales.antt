-- Scales: in which of them times are whole, the least that serves, and tracks in ticks of another one.
use Rattle.std.specs.Prelude.{ℕ, pos, ◌*◌, ◌/◌, ◌%◌, ◌^◌, ◌<◌, ◌==◌, Bool, List, map, Option, option_map, unsigned_abs}
use Rattle.std.specs.List.{find, list_all, range_with_len}
use Rattle.mp_frac.specs.declared.time.Frac.{Frac}
use Rattle.mp_frac.specs.Divisors.{most}
use Rattle.mp_frac.specs.Time.{in_ticks}
use Rattle.mp_timeline.specs.declared.segment.Segment.{Segment}
use Rattle.mp_timeline.specs.declared.segment.Segment.TheVariants.{Empty, Media}
use Rattle.mp_timeline.specs.Movie.{TrackRecord}
use Rattle.mp_edits.specs.EditBox.{segments_in}
use Rattle.mp_edits.specs.Segments.{duration}

-- the time is whole in the scale
abbrev pub is_whole : ℕ → Frac → Bool
is_whole scale time = (unsigned_abs time.n * scale) % time.d == 0

-- the multiples of a scale, from itself up to the greatest scale
abbrev pub multiples : ℕ → List ℕ
multiples scale = map (λ factor. scale * factor) (range_with_len 1 (most / scale))

-- the least of them in which all the times are whole, where there is one
abbrev pub settled : ℕ → List Frac → Option ℕ
settled scale times = find (λ multiple. list_all (is_whole multiple) times) (multiples scale)

-- the durations of the edits of a track in a movie of that scale
abbrev pub edit_times : ℕ → TrackRecord → List Frac
edit_times scale track = map (λ segment. in_ticks (pos (duration segment)) scale) (segments_in track.edits)

-- so many ticks of the old scale, in ticks of the new one
abbrev pub in_scale : ℕ → ℕ → ℕ → ℕ
in_scale old new ticks = ticks * new / old

-- a segment whose duration is in ticks of another scale of the movie
abbrev pub lasting : ℕ → ℕ → Segment → Segment
lasting old new (Empty dur) = Empty (in_scale old new dur)
lasting old new (Media start dur) = Media start (in_scale old new dur)

-- 64 bits hold its duration then
abbrev pub CanLast : ℕ → ℕ → Segment → Type 0
CanLast old new segment = in_scale old new (duration segment) < 2 ^ 64

-- a track in a movie of another scale
abbrev pub in_movie_scale : ℕ → ℕ → TrackRecord → TrackRecord
in_movie_scale old new track = record track { edits = option_map (map (lasting old new)) track.edits }

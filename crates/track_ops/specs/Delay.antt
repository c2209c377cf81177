-- A track is shown later or earlier by milliseconds (this project's own; segments are those of ISO/IEC 14496-12, 8.6.6).
use Rattle.std.specs.Prelude.{ℕ, suc, ◌*◌, ℤ, pos, negsuc, nat_le, ◌==◌, List, ◌∷◌, map, Option, Some, None, Result, Ok, Err, if◌then◌else◌}
use Rattle.std.specs.Ordering.{int_eq}
use Rattle.mp_ports.specs.declared.code.Code.{Code}
use Rattle.mp_ports.specs.declared.code.Code.TheVariants.{DelayPastEnd, ScaleLimit}
use Rattle.mp_ports.specs.Checks.{◌>>=◌}
use Rattle.mp_timeline.specs.declared.segment.Segment.{Segment}
use Rattle.mp_timeline.specs.declared.segment.Segment.TheVariants.{Empty, Media}
use Rattle.mp_timeline.specs.Movie.{TrackRecord, MovieRecord}
use Rattle.mp_edits.specs.Segments.{duration, total}
use Rattle.mp_shown.specs.Segments.{explicit, pieces}
use Rattle.mp_clip.specs.Clipped.{as_times, starts}
use Rattle.track_ops.specs.Limits.{settled_to}
use Rattle.track_ops.specs.Scales.{in_movie_scale, in_scale, settled}
use Rattle.track_ops.specs.Ticks.{in_track_scale}
use Rattle.track_ops.specs.Tracks.{of_track}

-- how many of the unit a second has, in which milliseconds and the times of a track are whole
abbrev pub unit : (movie media : ℕ) → ℕ
unit movie media = movie * media * 1000

-- what is left of segments behind that time; `DelayPastEnd` where nothing is
abbrev pub behind : ℕ → List Segment → Result (List Segment) Code
behind time segments = if nat_le (total segments) time then Err DelayPastEnd else Ok (pieces time (total segments) segments)

-- the segments of a track that is shown so many milliseconds later: nothing in front of them; or earlier: what is left of them
abbrev pub delayed : ℤ → (movie : ℕ) → TrackRecord → Result (List Segment) Code
delayed (pos ms) movie track = Ok (Empty (ms * (movie * track.scale)) ∷ explicit movie track 1000)
delayed (negsuc ms) movie track = behind (suc ms * (movie * track.scale)) (explicit movie track 1000)

-- a segment of a unit, in ticks of the scales of a track and a movie
abbrev pub told : (unit media movie : ℕ) → Segment → Segment
told unit media movie (Empty dur) = Empty (in_scale unit movie dur)
told unit media movie (Media start dur) = Media (in_scale unit media start) (in_scale unit movie dur)

-- a track in ticks of that scale, with these segments of a unit as its edits
abbrev pub showing : (unit media movie : ℕ) → List Segment → TrackRecord → TrackRecord
showing unit media movie segments track = record (in_track_scale media track) { edits = Some (map (told unit media movie) segments) }

-- the movie in ticks of that scale, where the track of the number shows these
abbrev pub with_shown : ℕ → (unit : ℕ) → List Segment → MovieRecord → (media scale : ℕ) → MovieRecord
with_shown number unit segments movie media scale = record movie {
  scale = scale;
  tracks = map (λ track. if track.number == number then showing unit media scale segments track else in_movie_scale movie.scale scale track) movie.tracks;
}

-- the same in the scales that serve, within the limits
abbrev pub shown_in : (ℕ → ℕ → MovieRecord) → Option ℕ → Option ℕ → Result MovieRecord Code
shown_in movie None scale = Err ScaleLimit
shown_in movie (Some media) scale = settled_to (movie media) scale

-- in the least multiples of both scales in which the starts and the durations are whole; in these all other times are whole too
abbrev pub reshown : ℕ → MovieRecord → TrackRecord → List Segment → Result MovieRecord Code
reshown number movie track segments =
    let unit = unit movie.scale track.scale in
    shown_in (with_shown number unit segments movie) (settled track.scale (as_times unit (starts segments))) (settled movie.scale (as_times unit (map duration segments)))

-- the track of that number is shown so many milliseconds later, or earlier where that is below 0; 0 changes nothing
abbrev pub delay : ℕ → ℤ → MovieRecord → Result MovieRecord Code
delay number ms movie =
    of_track number (λ track. if int_eq ms (pos 0) then Ok movie else delayed ms movie.scale track >>= reshown number movie track) movie

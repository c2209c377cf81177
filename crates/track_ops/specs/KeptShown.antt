-- A track that shows other segments, on tracks as they are kept.
use Rattle.std.specs.Prelude.{◌≡◌, ℕ, ◌<◌, ◌*◌, ◌/◌, ◌^◌, nat_le, nat_lt, Bool, not, ◌&&◌, ◌||◌, ◌==◌, List, [], ◌∷◌, map, length, set, Option, Some, None, Result, Err}
use Rattle.std.specs.List.{list_any}
use Rattle.std.specs.Int.{◌∣◌}
use Rattle.mp_ports.specs.declared.code.Code.{Code}
use Rattle.mp_ports.specs.declared.code.Code.TheVariants.{DeltaLimit, DurationLimit, OffsetLimit, ScaleLimit, SegmentLimit, StartLimit}
use Rattle.mp_ports.specs.Checks.{first_code, unless}
use Rattle.mp_timeline.specs.declared.segment.Segment.{Segment}
use Rattle.mp_timeline.specs.declared.segment.Segment.TheVariants.{Empty, Media}
use Rattle.mp_edits.specs.Segments.{duration, most_segments, starts_late, total}
use Rattle.mp_movie.specs.Placed.{PlacedTrack, PlacedMovie}
use Rattle.mp_movie.specs.PartsFit.{first_limit, is_long, is_wide}
use Rattle.mp_clip.specs.Clipped.{Tells, as_times, starts}
use Rattle.track_ops.specs.Delay.{told, unit}
use Rattle.track_ops.specs.Kept.{lasts}
use Rattle.track_ops.specs.KeptTimes.{column_in_scale, kept_in_movie_scale, kept_retimed, with_track}
use Rattle.track_ops.specs.Scales.{settled}
use Rattle.track_ops.specs.Summed.{within}

-- the movie in ticks of that scale, where the track at that place gets these edits, in ticks of a scale of its own
abbrev pub kept_shown : ℕ → PlacedTrack → (media : ℕ) → List Segment → (scale : ℕ) → PlacedMovie → PlacedMovie
kept_shown at track media edits scale movie = with_track at (kept_retimed media (Some edits) track) (kept_in_movie_scale scale movie)

-- the tracks, where that at the place has no edit list
abbrev pub without_edits : ℕ → PlacedTrack → List PlacedTrack → List PlacedTrack
without_edits at track tracks = set tracks at (record track { edits = None })

-- the movie, unless it passes a limit
abbrev pub kept_within : PlacedMovie → Result PlacedMovie Code
kept_within movie = unless (first_limit movie) movie

-- in scales that serve
abbrev pub kept_shown_in : (ℕ → ℕ → PlacedMovie) → Option ℕ → Option ℕ → Result PlacedMovie Code
kept_shown_in movie None scale = Err ScaleLimit
kept_shown_in movie (Some media) None = Err ScaleLimit
kept_shown_in movie (Some media) (Some scale) = kept_within (movie media scale)

-- the movie where the track at that place shows these segments
abbrev pub kept_reshown : ℕ → PlacedMovie → PlacedTrack → List Segment → Result PlacedMovie Code
kept_reshown at movie track segments =
    let unit = unit movie.scale track.scale in
    kept_shown_in (λ media scale. kept_shown at track media (map (told unit media scale) segments) scale movie)
    (settled track.scale (as_times unit (starts segments))) (settled movie.scale (as_times unit (map duration segments)))

-- a segment in ticks that have so many of the unit; a number above 64 bits is the last of these
abbrev pub capped_in : (of_start of_length : ℕ) → Segment → Segment
capped_in of_start of_length (Empty length) = Empty (within (length / of_length))
capped_in of_start of_length (Media start length) = Media (within (start / of_start)) (within (length / of_length))

-- an edit list of another track is 2^62 ticks or longer in the new scale
abbrev pub others_last_long : ℕ → (old new : ℕ) → List PlacedTrack → Bool
others_last_long number old new tracks = list_any (λ track. not (track.number == number) && nat_le (2 ^ 62 * old) (within (lasts track) * new)) tracks

-- the limits that can be passed where a track shows these edits, in ticks of these scales
abbrev pub shown_limit : PlacedMovie → PlacedTrack → (media : ℕ) → List Segment → (scale : ℕ) → Option Code
shown_limit movie track media edits scale =
    first_code
    ((is_long (column_in_scale track.scale media track.deltas), DeltaLimit)
    ∷ (is_wide (column_in_scale track.scale media track.offsets), OffsetLimit)
    ∷ (nat_le (2 ^ 62) (total edits) || others_last_long track.number movie.scale scale movie.tracks, DurationLimit)
    ∷ (list_any starts_late edits, StartLimit)
    ∷ (nat_lt most_segments (length edits), SegmentLimit)
    ∷ [])

-- multiples of both scales in which the segments are whole, their edits there, and no limit is passed
pub record IsShowing (at : ℕ) (movie : PlacedMovie) (track : PlacedTrack) (segments : List Segment) (media : ℕ) (edits : List Segment) (scale : ℕ) : Type 0 where
  pub some_media : 0 < media
  pub some_scale : 0 < scale
  pub multiple : track.scale ∣ media
  pub scale_multiple : movie.scale ∣ scale
  pub told : Tells (unit movie.scale track.scale) media scale segments edits
  pub fits : first_limit (kept_shown at track media edits scale movie) ≡ None

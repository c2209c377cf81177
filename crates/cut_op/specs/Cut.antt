-- A movie that is cut to a range of time (this project's own).
use Rattle.std.specs.Prelude.{ℕ, List, [], ◌∷◌, map, Option, Some, None, option_map, Result, Err, if◌then◌else◌}
use Rattle.std.specs.List.{flat_map}
use Rattle.mp_frac.specs.declared.time.Frac.{Frac}
use Rattle.mp_ports.specs.declared.code.Code.{Code}
use Rattle.mp_ports.specs.declared.code.Code.TheVariants.{BadRange, ScaleLimit, DeltaLimit, OffsetLimit, DurationLimit, StartLimit}
use Rattle.mp_timeline.specs.Movie.{TrackRecord, MovieRecord}
use Rattle.mp_shown.specs.Fractions.{is_before}
use Rattle.track_ops.specs.Scales.{edit_times, settled}
use Rattle.track_ops.specs.Limits.{settled_to}
use Rattle.track_ops.specs.Ticks.{track_times}
use Rattle.track_ops.specs.Told.{all_some, told_track}
use Rattle.cut_op.specs.Track.{cut_track}

-- the track cut to the range, in its least scale, in a movie of scale `new`; none where that is above the greatest scale
abbrev pub cut_settled : (old new : ℕ) → (from to : Frac) → TrackRecord → Option TrackRecord
cut_settled old new from to track =
    let exact = cut_track old from to track in
    option_map (λ scale. told_track scale new exact) (settled track.scale (track_times exact))

-- the durations of the edits of a track that is cut
abbrev pub cut_durations : (movie : ℕ) → (from to : Frac) → TrackRecord → List Frac
cut_durations movie from to track = let exact = cut_track movie from to track in edit_times exact.scale exact

-- the least multiple of the movie's scale in which they are whole for all tracks
abbrev pub cut_scale : (from to : Frac) → MovieRecord → Option ℕ
cut_scale from to movie = settled movie.scale (flat_map (cut_durations movie.scale from to) movie.tracks)

-- the movie of the tracks cut to the range, each in its least scale, in that scale of the movie, where there is one
abbrev pub in_movie_scale : (from to : Frac) → MovieRecord → Option ℕ → Option MovieRecord
in_movie_scale from to movie None = None
in_movie_scale from to movie (Some scale) =
    option_map (λ tracks. record movie { scale = scale; tracks = tracks }) (all_some (map (cut_settled movie.scale scale from to) movie.tracks))

-- the same in the movie's least scale; none where a least scale, the movie's or a track's, is above the greatest
abbrev pub cut_movie : (from to : Frac) → MovieRecord → Option MovieRecord
cut_movie from to movie = in_movie_scale from to movie (cut_scale from to movie)

-- the codes that a cut is refused with
abbrev pub cut_codes : List Code
cut_codes = BadRange ∷ ScaleLimit ∷ DeltaLimit ∷ OffsetLimit ∷ DurationLimit ∷ StartLimit ∷ []

-- a movie cut to the time from `from` up to `to`: `BadRange` where that is no time, then `ScaleLimit`, then the first limit that is passed
abbrev pub cut : (from to : Frac) → MovieRecord → Result MovieRecord Code
cut from to movie = if is_before from to then settled_to (λ settled. settled) (cut_movie from to movie) else Err BadRange

-- Commands that set a scale (this project's own): they are refused where a time isn't whole in it.
use Rattle.std.specs.Prelude.{ℕ, List, map, Result, Err, if◌then◌else◌}
use Rattle.std.specs.List.{flat_map, list_all}
use Rattle.mp_frac.specs.declared.time.Frac.{Frac}
use Rattle.mp_ports.specs.declared.code.Code.{Code}
use Rattle.mp_ports.specs.declared.code.Code.TheVariants.{NotWhole}
use Rattle.mp_timeline.specs.Movie.{MovieRecord}
use Rattle.track_ops.specs.Limits.{within_limits}
use Rattle.track_ops.specs.Scales.{edit_times, in_movie_scale, is_whole}
use Rattle.track_ops.specs.Ticks.{in_track_scale, track_times}
use Rattle.track_ops.specs.Tracks.{changed_at, of_track}

-- the movie within its limits, where all these times are whole in the scale, else `NotWhole`
abbrev pub where_whole : ℕ → List Frac → MovieRecord → Result MovieRecord Code
where_whole scale times movie = if list_all (is_whole scale) times then within_limits movie else Err NotWhole

-- a movie in ticks of that scale: durations of edit lists are asked of it
abbrev pub set_movie_scale : ℕ → MovieRecord → Result MovieRecord Code
set_movie_scale scale movie =
    where_whole scale (flat_map (edit_times movie.scale) movie.tracks)
    (record movie { scale = scale; tracks = map (in_movie_scale movie.scale scale) movie.tracks })

-- the track of that number in ticks of that scale
abbrev pub set_track_scale : ℕ → ℕ → MovieRecord → Result MovieRecord Code
set_track_scale number scale movie =
    of_track number (λ track. where_whole scale (track_times track) (record movie { tracks = changed_at number (in_track_scale scale) movie.tracks }))
    movie

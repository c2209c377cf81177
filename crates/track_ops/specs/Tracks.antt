-- Commands on the track of a number (this project's own): it is removed, or its head changes.
use Rattle.std.specs.Prelude.{ℕ, Bool, not, ◌==◌, List, map, Option, Some, None, Result, Ok, Err, if◌then◌else◌}
use Rattle.std.specs.List.{filter, find}
use Rattle.mp_ports.specs.declared.code.Code.{Code}
use Rattle.mp_ports.specs.declared.code.Code.TheVariants.{NoTrack}
use Rattle.mp_timeline.specs.Movie.{TrackRecord, MovieRecord}
use Rattle.track_ops.specs.declared.heads.HeadChange.{HeadChange}
use Rattle.track_ops.specs.declared.heads.HeadChange.TheVariants.{Language, Enabled}
use Rattle.track_ops.specs.Numbers.{is_taken, numbers_of}
use Rattle.track_ops.specs.Heads.{changed, language_of}

-- what is wanted of a movie that has a track of that number, else `NoTrack`
abbrev pub where_there : ℕ → MovieRecord → Result MovieRecord Code → Result MovieRecord Code
where_there number movie wanted = if is_taken (numbers_of movie.tracks) number then wanted else Err NoTrack

-- what is wanted of the track that was found, else `NoTrack`
abbrev pub where_found : (TrackRecord → Result MovieRecord Code) → Option TrackRecord → Result MovieRecord Code
where_found wanted None = Err NoTrack
where_found wanted (Some track) = wanted track

-- what is wanted of the track of that number
abbrev pub of_track : ℕ → (TrackRecord → Result MovieRecord Code) → MovieRecord → Result MovieRecord Code
of_track number wanted movie = where_found wanted (find (λ track. track.number == number) movie.tracks)

-- all tracks but that of the number
abbrev pub without : ℕ → List TrackRecord → List TrackRecord
without number tracks = filter (λ track. not (track.number == number)) tracks

-- the tracks, that of the number changed
abbrev pub changed_at : ℕ → (TrackRecord → TrackRecord) → List TrackRecord → List TrackRecord
changed_at number change tracks = map (λ track. if track.number == number then change track else track) tracks

-- the track of the number is taken out
abbrev pub remove : ℕ → MovieRecord → Result MovieRecord Code
remove number movie = where_there number movie (Ok (record movie { tracks = without number movie.tracks }))

-- its head changes
abbrev pub change_head : ℕ → HeadChange → MovieRecord → Result MovieRecord Code
change_head number change movie =
    where_there number movie
    (Ok (record movie { tracks = changed_at number (λ track. record track { head = changed change track.head }) movie.tracks }))

-- its language is set
abbrev pub set_language : ℕ → List ℕ → MovieRecord → Result MovieRecord Code
set_language number letters = change_head number (Language (language_of letters))

-- it is enabled or disabled
abbrev pub set_enabled : ℕ → Bool → MovieRecord → Result MovieRecord Code
set_enabled number on = change_head number (Enabled on)

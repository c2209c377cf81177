-- Tracks of one movie behind those of another (this project's own).
use Rattle.std.specs.Prelude.{ℕ, true, ◌==◌, nat_lt, Bool, List, [], ◌∷◌, ◌++◌, map, codes, bytes_eq, Result, Err, if◌then◌else◌}
use Rattle.std.specs.List.{filter, flat_map, list_any}
use Rattle.mp_frac.specs.declared.time.Frac.{Frac}
use Rattle.mp_frac.specs.Divisors.{most}
use Rattle.mp_ports.specs.declared.code.Code.{Code}
use Rattle.mp_ports.specs.declared.code.Code.TheVariants.{IdLimit, NoTrack}
use Rattle.mp_timeline.specs.Movie.{TrackRecord, MovieRecord}
use Rattle.track_ops.specs.declared.chosen.Choice.{Choice}
use Rattle.track_ops.specs.declared.chosen.Choice.TheVariants.{All, Number, Video, Audio}
use Rattle.track_ops.specs.Numbers.{numbers_for, numbers_of}
use Rattle.track_ops.specs.Scales.{edit_times, in_movie_scale, settled}
use Rattle.track_ops.specs.Limits.{settled_to}

-- a track of that number and that handler is chosen
abbrev pub is_chosen : Choice → ℕ → List ℕ → Bool
is_chosen All number handler = true
is_chosen (Number wanted) number handler = number == wanted
is_chosen Video number handler = bytes_eq handler (codes "vide")
is_chosen Audio number handler = bytes_eq handler (codes "soun")

-- the chosen tracks, in order
abbrev pub chosen : Choice → List TrackRecord → List TrackRecord
chosen choice tracks = filter (λ track. is_chosen choice track.number track.head.handler) tracks

-- tracks with these numbers
abbrev pub renumbered : List ℕ → List TrackRecord → List TrackRecord
renumbered [] tracks = []
renumbered (number ∷ numbers) [] = []
renumbered (number ∷ numbers) (track ∷ tracks) = record track { number = number } ∷ renumbered numbers tracks

-- what the movie has, where it has tracks, else what the other has
abbrev pub unless_empty : {A B : Type 0} → List A → B → B → B
unless_empty [] own other = other
unless_empty (track ∷ tracks) own other = own

-- the tracks of the movie and then these of the other, with numbers of their own, in a movie of that scale
abbrev pub joined : MovieRecord → MovieRecord → List TrackRecord → ℕ → MovieRecord
joined movie other tracks scale = record {
  scale = scale;
  head = unless_empty movie.tracks movie.head other.head;
  tracks =
      map (in_movie_scale movie.scale scale) movie.tracks
      ++ map (in_movie_scale other.scale scale) (renumbered (numbers_for (numbers_of movie.tracks) (numbers_of tracks)) tracks);
}

-- the durations of all their edit lists
abbrev pub joined_times : MovieRecord → MovieRecord → List TrackRecord → List Frac
joined_times movie other tracks = flat_map (edit_times movie.scale) movie.tracks ++ flat_map (edit_times other.scale) tracks

-- a number is above 32 bits
abbrev pub is_above : ℕ → Bool
is_above number = nat_lt most number

-- the tracks of the other that were chosen are added: `NoTrack` where there is none, `IdLimit` where one gets no number
abbrev pub add_chosen : MovieRecord → MovieRecord → List TrackRecord → Result MovieRecord Code
add_chosen movie other [] = Err NoTrack
add_chosen movie other tracks =
    if list_any is_above (numbers_for (numbers_of movie.tracks) (numbers_of tracks)) then Err IdLimit
    else settled_to (joined movie other tracks) (settled (unless_empty movie.tracks movie.scale other.scale) (joined_times movie other tracks))

-- the chosen tracks of the other are added to the movie
abbrev pub add : Choice → MovieRecord → MovieRecord → Result MovieRecord Code
add choice other movie = add_chosen movie other (chosen choice other.tracks)

-- A file presents what is read of it, unless a check fails; each scale of a well-formed movie is at least one tick a second.
use Rattle.std.proofs.Common.{◌≡◌, ◌<◌, ℕ, List, [], ◌∷◌, Some, None, refl}
use Rattle.std.specs.List.{AllByRecursion}
use Rattle.mp_timeline.specs.Movie.{TrackRecord, MovieRecord}
use Rattle.mp_timeline.specs.Same.{HasScales}
use Rattle.mp_ports.specs.declared.fault.Bad.{Bad}
use Rattle.mp_movie.specs.Present.{first_fault, moov_in, movie_of, present}
use Rattle.mp_movie.specs.WellFormed.{IsWellFormed, IsWellFormedTrack}

track_scales : (scale : ℕ) (tracks : List TrackRecord) → AllByRecursion (IsWellFormedTrack scale) tracks → AllByRecursion (λ track. 0 < track.scale) tracks
track_scales scale [] h = tt
track_scales scale (track ∷ tracks) h = (h.0.media.some_scale, track_scales scale tracks h.1)

pub has_scales : (movie : MovieRecord) → IsWellFormed movie → HasScales movie
has_scales movie h = record { whole = h.header.some_scale; tracks = track_scales movie.scale movie.tracks h.tracks }

pub is_read : (file : List ℕ) → first_fault file ≡ None → present file ≡ Some (movie_of file (moov_in file))
unfolding present
is_read file none = rw none refl

pub is_refused : (file : List ℕ) (bad : Bad) → first_fault file ≡ Some bad → present file ≡ None
unfolding present
is_refused file bad some = rw some refl

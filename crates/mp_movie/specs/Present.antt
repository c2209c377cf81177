-- The movie that a file presents, and the checks of a file, in order (ISO/IEC 14496-12, 4.2, 8.1 to 8.8).
use Rattle.std.specs.Prelude.{◌≡◌, ℕ, true, nat_lt, List, [], ◌∷◌, length, map, Option, Some, Result, codes}
use Rattle.std.specs.Result.{result_ok}
use Rattle.mp_ports.specs.declared.code.Code.TheVariants.{Compressed, Fragmented, MoovLimit, TrackLimit}
use Rattle.mp_ports.specs.declared.fault.Bad.{Bad}
use Rattle.mp_ports.specs.Checks.{fault_at, first_code, first_some, unless}
use Rattle.mp_boxes.specs.Reading.{value_or}
use Rattle.mp_boxes.specs.Boxes.{Box, boxes, whole_box}
use Rattle.mp_boxes.specs.Child.{of_kind, one_of}
use Rattle.mp_headers.specs.MovieHeader.{mvhd_of, mvhd_fields}
use Rattle.mp_timeline.specs.Movie.{MovieRecord}
use Rattle.mp_timeline.specs.Same.{IsSame}
use Rattle.mp_movie.specs.Readings.{fault_of}
use Rattle.mp_movie.specs.Children.{boxes_in, has_boxes, has_none, has_one, no_box, the, user_data}
use Rattle.mp_movie.specs.Heads.{movie_head}
use Rattle.mp_movie.specs.Limits.{most_tracks}
use Rattle.mp_movie.specs.Tracks.{track_of, tracks_fault}

-- the boxes of a file, or the first fault
unfoldable pub top_boxes : List ℕ → Result (List Box) Bad
top_boxes file = boxes true 0 file

-- these boxes, where they are whole
abbrev pub boxes_at_top : List ℕ → List Box
boxes_at_top file = value_or [] (top_boxes file)

-- the one movie box: `BoxMissing` at the end of the file, `BoxTwice` at the second
unfoldable pub one_moov : List ℕ → Result Box Bad
one_moov file = one_of (length file) (of_kind (codes "moov") (boxes_at_top file))

-- the movie box, where there is one
abbrev pub moov_in : List ℕ → Box
moov_in file = value_or no_box (one_moov file)

-- the track boxes, in order
abbrev pub traks_in : Box → List Box
traks_in moov = of_kind (codes "trak") (boxes_in moov)

-- the longest movie box
abbrev pub most_moov : ℕ
most_moov = 268435456

-- it is no longer than that, header included
abbrev pub is_short : Box → Option Bad
is_short moov = fault_at moov.place (first_code ((nat_lt most_moov (length (whole_box moov)), MoovLimit) ∷ []))

-- it has no more tracks than a movie may have
abbrev pub has_few_tracks : Box → Option Bad
has_few_tracks moov = fault_at 0 (first_code ((nat_lt most_tracks (length (traks_in moov)), TrackLimit) ∷ []))

-- the checks of a movie box, in order, in a file of so many bytes
abbrev pub movie_checks : ℕ → Box → List (Option Bad)
movie_checks file_size moov =
    let mvhd = the (codes "mvhd") moov in
    is_short moov
    ∷ has_boxes moov
    ∷ has_none Fragmented (codes "mvex") (boxes_in moov)
    ∷ has_none Compressed (codes "cmov") (boxes_in moov)
    ∷ has_one (codes "mvhd") moov
    ∷ fault_of (mvhd_of mvhd.place mvhd.body)
    ∷ has_few_tracks moov
    ∷ tracks_fault file_size [] (traks_in moov)
    ∷ []

-- the first of them that fails
unfoldable pub movie_fault : ℕ → Box → Option Bad
movie_fault file_size moov = first_some (movie_checks file_size moov)

-- the checks of a file, in order
abbrev pub file_checks : List ℕ → List (Option Bad)
file_checks file =
    fault_of (top_boxes file)
    ∷ has_none Fragmented (codes "moof") (boxes_at_top file)
    ∷ has_none Compressed (codes "!mov") (boxes_at_top file)
    ∷ fault_of (one_moov file)
    ∷ movie_fault (length file) (moov_in file)
    ∷ []

-- the first of them that fails
unfoldable pub first_fault : List ℕ → Option Bad
first_fault file = first_some (file_checks file)

-- the movie by a movie box of a file
unfoldable pub movie_of : List ℕ → Box → MovieRecord
movie_of file moov =
    let header = mvhd_fields (the (codes "mvhd") moov).body in
    record { scale = header.timescale; head = movie_head header (user_data moov); tracks = map (track_of file) (traks_in moov) }

-- the movie of a file, unless a check fails
abbrev pub reading : List ℕ → Result MovieRecord Bad
reading file = unless (first_fault file) (movie_of file (moov_in file))

-- the movie that a file presents
unfoldable pub present : List ℕ → Option MovieRecord
present file = result_ok (reading file)

-- what is read of a file is defined, and is the same movie
pub record Presents (file : List ℕ) (movie : MovieRecord) : Type 0 where
  pub read : MovieRecord
  pub defined : present file ≡ Some read
  pub same : IsSame read movie

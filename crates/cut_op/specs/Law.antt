-- What is shown by a movie that was cut, as laws of the definitions.
use Rattle.std.specs.Prelude.{◌≡◌, List, Ok}
use Rattle.mp_frac.specs.declared.time.Frac.{Frac}
use Rattle.mp_timeline.specs.Movie.{MovieRecord}
use Rattle.mp_timeline.specs.Same.{HasScales}
use Rattle.mp_clip.specs.Clipped.{IsRange}
use Rattle.track_ops.specs.CutAndJoined.{with_cut}
use Rattle.track_ops.specs.Moments.{AreSeenAs, View}
use Rattle.cut_op.specs.Cut.{cut}
use Rattle.cut_op.specs.Shows.{MovieShowsRange}

-- the movie that a cut gives shows the range of the one that was cut
abbrev pub CutShowsTheRange : Type 0
CutShowsTheRange = (from to : Frac) (movie new : MovieRecord) → IsRange from to → HasScales movie → cut from to movie ≡ Ok new → MovieShowsRange from to movie new

-- where a movie is seen as views say, what a cut makes of it is seen as the cut says
abbrev pub CutsAreSeen : Type 0
CutsAreSeen =
    (from to : Frac) (movie made : MovieRecord) (views : List View) → IsRange from to → HasScales movie → cut from to movie ≡ Ok made
    → AreSeenAs movie views → AreSeenAs made (with_cut from to views)

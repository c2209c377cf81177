-- What the law of the tables says.
use Rattle.std.specs.Prelude.{◌≡◌, ℕ, List, [], None, get_or}
use Rattle.std.specs.List.{AllByRecursion}
use Rattle.mp_boxes.specs.Boxes.{Box}
use Rattle.mp_movie.specs.Present.{movie_fault, movie_of}
use Rattle.mp_movie.specs.PartsFit.{first_limit}
use Rattle.mp_movie.specs.StandsFor.{stands_for}
use Rattle.mp_movie.specs.WholeParts.{AreParts}
use Rattle.mp_read.specs.Movie.{IsRead, MovieTablesRecord, movie_tables}
use Rattle.mp_read.specs.Parts.{HasSizes, placed_movie}

-- where no check of a movie box fails, the parts by its tables stand for its movie, whatever the other files are
abbrev pub TablesStandForMovies : Type 0
TablesStandForMovies =
    (files : List (List ℕ)) (file size : ℕ) (moov : Box) → movie_fault size moov ≡ None
    → stands_for files (placed_movie file (movie_tables moov)) ≡ movie_of (get_or files file []) moov

-- where no check of a movie box of bytes fails, the parts by its tables are well formed
abbrev pub TablesAreParts : Type 0
TablesAreParts = (file size : ℕ) (movie : MovieTablesRecord) → IsRead size movie → AreParts (placed_movie file movie)

-- and there is a size of 32 bits for the place of each sample
abbrev pub TablesHaveSizes : Type 0
TablesHaveSizes = (size : ℕ) (movie : MovieTablesRecord) → IsRead size movie → AllByRecursion HasSizes movie.tracks

-- they pass no limit
abbrev pub TablesFit : Type 0
TablesFit = (file size : ℕ) (movie : MovieTablesRecord) → IsRead size movie → first_limit (placed_movie file movie) ≡ None

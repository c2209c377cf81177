-- What is read of the bytes of a movie box is that of a movie box.
use Rattle.std.proofs.Common.{◌≡◌, ℕ, Option, Some, None, Result, Ok, Err, IfOk, refl}
use Rattle.mp_ports.specs.declared.fault.Bad.{Bad}
use Rattle.mp_ports.specs.declared.fault.Fail.{Fail}
use Rattle.mp_ports.specs.Checks.{unless}
use Rattle.mp_ports.specs.Gives.{Gives, refusal}
use Rattle.mp_boxes.specs.Boxes.{Box, IsBytes}
use Rattle.mp_movie.specs.Present.{movie_fault}
use Rattle.mp_read.specs.Movie.{IsRead, MovieTablesRecord, movie_tables}

is_read : (size : ℕ) (box : Box) (movie : MovieTablesRecord) → IsBytes box.body → unless (movie_fault size box) (movie_tables box) ≡ Ok movie → IsRead size movie
is_read size box movie bytes e = by (movie_fault size box) refl e
  where
    by : (fault : Option Bad) → movie_fault size box ≡ fault → unless fault (movie_tables box) ≡ Ok movie → IsRead size movie
    by None f same = record { moov = box; bytes = bytes; passes = f; is = cc }
    by (Some bad) f same = absurd cc

pub read_is_read : (size : ℕ) (box : Box) (r : Result MovieTablesRecord Fail) → Gives refusal (λ (movie : MovieTablesRecord). movie) r (unless (movie_fault size box) (movie_tables box)) → IsBytes box.body → IfOk r (IsRead size)
read_is_read size box (Ok movie) given bytes = is_read size box movie bytes given
read_is_read size box (Err fail) given bytes = tt

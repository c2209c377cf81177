-- Movies of pictures as they are kept, and what the film of judged units answers.
use Rattle.std.specs.Prelude.{◌≡◌, ◌⊎◌, ℕ, ℤ, ◌-◌, ◌^◌, ◌<◌, ◌≤◌, nat_lt, Bool, true, List, length, map, slice_index, All, Option, Some, None, Result, Ok, Err}
use Rattle.std.specs.List.{AllByRecursion, range_with_len}
use Rattle.mp_ports.specs.Checks.{bad_at, first_code, ◌>>=◌}
use Rattle.mp_ports.specs.declared.code.Code.TheVariants.{PocTie, ScaleLimit}
use Rattle.mp_ports.specs.declared.fault.Bad.{Bad}
use Rattle.mp_ports.specs.declared.fault.Fail.{Fail}
use Rattle.mp_ports.specs.declared.fault.Fail.TheVariants.{Bad as Refused, NoMemory}
use Rattle.mp_timeline.specs.Movie.{MovieRecord}
use Rattle.mp_movie.specs.Placed.{PlacedMovie, PlacedTrack}
use Rattle.avc_import.specs.declared.rate.Rate.{Rate}
use Rattle.avc_import.specs.declared.film.Shots.{Shots}
use Rattle.avc_import.specs.declared.order.Order.{Order}
use Rattle.avc_import.specs.declared.schedule.Schedule.{Schedule}
use Rattle.avc_import.specs.Unit.{Known, most_frames}
use Rattle.avc_import.specs.Ranking.{first_tie, latest, shown_at}
use Rattle.avc_import.specs.Film.{Film, film_of, film_movie, limit_checks, part_bytes, schedule}
use Rattle.avc_import.specs.Stream.{within_limits}
use Rattle.avc_import.specs.Pictures.{AreCut, IsUnitPiece}

-- so many pictures in so many seconds: neither is 0
pub record IsRate (rate : Rate) : Type 0 where
  pub num : 1 ≤ rate.num
  pub den : 1 ≤ rate.den

-- each piece of the movie lies in that file of so many bytes
abbrev pub LiesIn : ℕ → ℕ → PlacedMovie → Type 0
LiesIn file size movie = AllByRecursion (λ (track : PlacedTrack). AllByRecursion (IsUnitPiece file size) track.pieces) movie.tracks

-- the movie of a film, where the file has these bytes
abbrev pub movie_in : Option Rate → List ℕ → Film → MovieRecord
movie_in rate file film = film_movie film (schedule rate film) (map (part_bytes file) film.parts)

-- the movie of the units that are known
abbrev pub movie_behind : Option Rate → List ℕ → Known → Result MovieRecord Bad
movie_behind rate file known = do
  film ← film_of known
  whole ← within_limits rate film
  Ok (movie_in rate file whole)

-- the pictures of a film without a tie, as they are kept
pub record AreShots (file size : ℕ) (rate : Option Rate) (film : Film) (shots : Shots) : Type 0 where
  pub sequence : shots.sets.sequence ≡ Some film.sequence
  pub units : shots.sets.units ≡ film.picture_units
  pub some : 0 < length film.picture_units
  pub few : length film.counts ≤ most_frames
  pub syncs_len : length film.syncs ≡ length film.counts
  pub parts_len : length film.parts ≡ length film.counts
  pub syncs : shots.syncs.items ≡ film.syncs
  pub shown : shots.order.shown.items ≡ map (shown_at film.counts film.syncs) (range_with_len 0 (length film.counts))
  pub schedule_is : shots.schedule ≡ schedule rate film
  pub parts : AreCut file film.parts shots.pictures.pieces.items shots.pictures.ends.items
  pub inside : All (IsUnitPiece file size) shots.pictures.pieces.items

-- they are those of some film
pub record HasShots (shots : Shots) : Type 0 where
  pub file : ℕ
  pub size : ℕ
  pub rate : Option Rate
  pub film : Film
  pub are : AreShots file size rate film shots

-- and its movie passes no limit
pub record ArePassed (shots : Shots) : Type 0 where
  pub of_film : HasShots shots
  pub none : first_code (limit_checks of_film.film (schedule of_film.rate of_film.film)) ≡ None

-- the order of pictures with these counts and marks, where no two of one sequence have one count
pub record IsOrder (counts : List ℤ) (syncs : List Bool) (order : Order) : Type 0 where
  pub shown : order.shown.items ≡ map (shown_at counts syncs) (range_with_len 0 (length counts))
  pub delay : order.delay ≡ latest counts syncs (length counts)
  pub untied : first_tie counts syncs (length counts) ≡ None

-- the fault of the picture whose count an earlier one of its sequence has, at its place
abbrev pub TiesAt : (places : List ℕ) (counts : List ℤ) (syncs : List Bool) → Bad → Type 0
TiesAt places counts syncs bad = (k : ℕ) × (first_tie counts syncs (length counts) ≡ Some k) × (bad ≡ bad_at PocTie (slice_index places k))

-- the fault of a movie that would have no scale
abbrev pub IsPastScale : Schedule → Bad → Type 0
IsPastScale s bad = (nat_lt (2 ^ 32 - 1) s.movie_scale ≡ true) × (bad ≡ bad_at ScaleLimit 0)

-- the pictures of the film that units give, or why they give none; or its movie would have no scale
abbrev pub GivesShots : ℕ → ℕ → Option Rate → Result Film Bad → Result Shots Fail → Type 0
GivesShots file size rate found (Ok shots) = (film : Film) × (found ≡ Ok film) × AreShots file size rate film shots
GivesShots file size rate found (Err (Refused bad)) =
    (found ≡ Err bad) ⊎ ((film : Film) × (found ≡ Ok film) × (within_limits rate film ≡ Err bad))
GivesShots file size rate found (Err NoMemory) = Unit {0}

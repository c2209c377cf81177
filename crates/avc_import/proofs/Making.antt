-- The movie of a film, by what the calls answer for units that are judged.
use Rattle.std.proofs.Common.{◌≡◌, ℕ, List, [], get_or, Option, None, Some, IfSome, Ok, Err, sym, ap, ◌∙◌, inl, inr}
use Rattle.mp_ports.specs.Checks.{bad_at, first_code}
use Rattle.mp_ports.specs.Gives.{refusal}
use Rattle.mp_ports.specs.declared.code.Code.{Code}
use Rattle.mp_ports.specs.declared.fault.Bad.{Bad}
use Rattle.mp_ports.specs.declared.fault.Fail.{Fail}
use Rattle.mp_ports.specs.declared.fault.Fail.TheVariants.{Bad as Refused, NoMemory}
use Rattle.mp_movie.specs.Placed.{PlacedMovie}
use Rattle.mp_movie.specs.PartsLaw.{SamplesFollow}
use Rattle.mp_movie.specs.StandsFor.{stands_for}
use Rattle.avc_import.specs.declared.rate.Rate.{Rate}
use Rattle.avc_import.specs.declared.film.Shots.{Shots}
use Rattle.avc_import.specs.declared.units.Judged.{Judged}
use Rattle.avc_import.specs.Judged.{HasFile, IsJudged}
use Rattle.avc_import.specs.Unit.{Known}
use Rattle.avc_import.specs.Film.{Film, film_of, limit_checks, schedule}
use Rattle.avc_import.specs.Places.{placed_movie}
use Rattle.avc_import.specs.Movie.{ArePassed, AreShots, GivesShots, HasShots, LiesIn, movie_behind}
use Rattle.avc_import.proofs.Filming.{limit_is, movie_given, movie_limited, movie_refused}
use Rattle.avc_import.proofs.Fitting.{lies, stands}

-- these are the pictures of judged units
abbrev pub AreShotsOf : Judged → Option Rate → Shots → Type 0
AreShotsOf judged rate shots = (file size : ℕ) (told : Option (List ℕ)) (j : IsJudged file size told judged) → GivesShots file size rate (film_of j.known) (Ok shots)

-- their first limit
abbrev pub IsLimitOf : Shots → Option Code → Type 0
IsLimitOf shots limit = (file size : ℕ) (rate : Option Rate) (film : Film) → AreShots file size rate film shots → limit ≡ first_code (limit_checks film (schedule rate film))

pub shots_have : (judged : Judged) (rate : Option Rate) (shots : Shots) → HasFile judged → AreShotsOf judged rate shots → HasShots shots
shots_have judged rate shots h given =
    let (film, found, are) = given h.file h.size h.told h.is in
    record { file = h.file; size = h.size; rate = rate; film = film; are = are }

pub shots_pass : (judged : Judged) (rate : Option Rate) (shots : Shots) → HasFile judged → AreShotsOf judged rate shots → IsLimitOf shots None → ArePassed shots
shots_pass judged rate shots h given limit =
    let have = shots_have judged rate shots h given in
    record { of_film = have; none = sym (limit have.file have.size have.rate have.film have.are) }

pub shots_refused : (file size : ℕ) (rate : Option Rate) (bytes : List ℕ) (known : Known) (fail : Fail) → GivesShots file size rate (film_of known) (Err fail)
    → IfSome (refusal fail) (λ bad. movie_behind rate bytes known ≡ Err bad)
shots_refused file size rate bytes known (Refused bad) (inl found) = movie_refused rate bytes known bad found
shots_refused file size rate bytes known (Refused bad) (inr (film, found, limited)) = movie_limited rate bytes known film bad found limited
shots_refused file size rate bytes known NoMemory given = tt

pub movie_past : (file size : ℕ) (told : Option (List ℕ)) (rate : Option Rate) (bytes : List ℕ) (judged : Judged) (shots : Shots) (code : Code) (bad : Bad) (j : IsJudged file size told judged)
    → AreShotsOf judged rate shots → IsLimitOf shots (Some code) → bad ≡ bad_at code 0 → movie_behind rate bytes j.known ≡ Err bad
movie_past file size told rate bytes judged shots code bad j given limit is =
    let (film, found, are) = given file size told j in
    movie_limited rate bytes j.known film bad found (limit_is rate film code bad (sym (limit file size rate film are)) is)

pub movie_is : (file size : ℕ) (told : Option (List ℕ)) (rate : Option Rate) (files : List (List ℕ)) (judged : Judged) (shots : Shots) (movie : PlacedMovie) (j : IsJudged file size told judged)
    → SamplesFollow → AreShotsOf judged rate shots → IsLimitOf shots None
    → ((file size : ℕ) (rate : Option Rate) (film : Film) → AreShots file size rate film shots → movie ≡ placed_movie file film (schedule rate film))
    → movie_behind rate (get_or files file []) j.known ≡ Ok (stands_for files movie)
movie_is file size told rate files judged shots movie j law given limit placed =
    let (film, found, are) = given file size told j in
    movie_given rate (get_or files file []) j.known film found (sym (limit file size rate film are))
    ∙ ap Ok (sym (stands files file size rate film shots movie law are (placed file size rate film are)))

pub movie_lies : (file size : ℕ) (told : Option (List ℕ)) (rate : Option Rate) (judged : Judged) (shots : Shots) (movie : PlacedMovie) → IsJudged file size told judged → AreShotsOf judged rate shots
    → ((file size : ℕ) (rate : Option Rate) (film : Film) → AreShots file size rate film shots → movie ≡ placed_movie file film (schedule rate film)) → LiesIn file size movie
movie_lies file size told rate judged shots movie j given placed =
    let (film, found, are) = given file size told j in
    lies file size rate film shots movie are (placed file size rate film are)

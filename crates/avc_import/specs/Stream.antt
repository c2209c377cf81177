-- The movie of an H.264 byte stream, or its first fault: one for each unit, in order, as far as the stream is cut into units; then what
-- ends it; then what is wrong with the whole (ITU-T H.264, Annex B).
use Rattle.std.specs.Prelude.{◌≡◌, ℕ, zero, suc, ◌+◌, List, [], ◌∷◌, length, map, take, drop, Option, Some, None, Result, Ok}
use Rattle.mp_ports.specs.Checks.{bad_at, fault_at, first_code, unless, ◌>>=◌}
use Rattle.mp_ports.specs.declared.code.Code.TheVariants.{UnitFraming}
use Rattle.mp_ports.specs.declared.fault.Bad.{Bad}
use Rattle.mp_timeline.specs.Movie.{MovieRecord}
use Rattle.avc_units.specs.Scan.{Step, step}
use Rattle.avc_units.specs.Scan.Step.{NoUnit, OneUnit, Fault}
use Rattle.avc_units.specs.Units.{Placed, AreUnits, HasUnits, IsFault}
use Rattle.avc_import.specs.declared.rate.Rate.{Rate}
use Rattle.avc_import.specs.Unit.{Known, nothing_known, behind_all}
use Rattle.avc_import.specs.Film.{Film, film_of, film_movie, limit_checks, part_bytes, schedule}

-- the units of a text, and what is wrong behind them
pub record Cut : Type 0 where
  pub units : List Placed
  pub fault : Option Bad

-- no further unit
abbrev pub ended : Option Bad → Cut
ended fault = record { units = []; fault = fault }

-- the next unit, and what follows it
abbrev pub in_front : Placed → Cut → Cut
in_front u cut = record { units = u ∷ cut.units; fault = cut.fault }

-- by what comes next; `later` is what follows so many bytes
abbrev pub cut_by : Step → ℕ → List ℕ → (ℕ → Cut) → Cut
cut_by NoUnit place rest later = ended None
cut_by (Fault at) place rest later = ended (Some (bad_at UnitFraming (place + at)))
cut_by (OneUnit from len) place rest later = in_front (record { from = place + from; bytes = take len (drop from rest) }) (later (from + len))

-- the text that stands at that place is cut into at most `fuel` units
unfoldable pub cut_from : ℕ → ℕ → List ℕ → Cut
cut_from zero place rest = ended None
cut_from (suc fuel) place rest = cut_by (step rest) place rest (λ n. cut_from fuel (place + n) (drop n rest))

-- a file has fewer units than bytes
abbrev pub cut : List ℕ → Cut
cut file = cut_from (suc (length file)) 0 file

-- a file is cut into its units, and where a fault of the framing follows some, into these
pub record StreamsAreCut : Type 0 where
  pub units : (file : List ℕ) (us : List Placed) → AreUnits file us → cut file ≡ record { units = us; fault = None }
  pub fault : (file : List ℕ) (us : List Placed) (end at : ℕ) → HasUnits file us end → IsFault (drop end file) at
      → cut file ≡ record { units = us; fault = Some (bad_at UnitFraming (end + at)) }

-- what a file's units say
unfoldable pub known_in : List ℕ → Result Known Bad
known_in file = behind_all nothing_known (cut file).units (cut file).fault

-- a film within the limits
abbrev pub within_limits : Option Rate → Film → Result Film Bad
within_limits rate film = unless (fault_at 0 (first_code (limit_checks film (schedule rate film)))) film

-- the pictures that units give
abbrev pub film_behind : Option Rate → Result Known Bad → Result Film Bad
film_behind rate found = do
  known ← found
  film ← film_of known
  within_limits rate film

-- the movie of the bytes of a file, whose pictures last as the rate says where there is one, or their first fault
abbrev pub stream_movie : Option Rate → List ℕ → Result MovieRecord Bad
stream_movie rate file = do
  film ← film_behind rate (known_in file)
  Ok (film_movie film (schedule rate film) (map (part_bytes file) film.parts))

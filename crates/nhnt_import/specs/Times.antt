-- How long the units of a table last, how much later than decoded they are composed, and the limits of these numbers.
use Rattle.std.specs.Prelude.{ℕ, ℤ, pos, ◌-ℤ◌, ◌-◌, Bool, List, [], ◌∷◌, ◌++◌, map, Option}
use Rattle.mp_ports.specs.Checks.{first_code}
use Rattle.mp_ports.specs.declared.code.Code.{Code}
use Rattle.mp_ports.specs.declared.code.Code.TheVariants.{DeltaLimit, OffsetLimit}
use Rattle.mp_movie.specs.PartsFit.{is_long, is_wide}
use Rattle.nhnt_import.specs.declared.unit.AccessUnit.{AccessUnit}

-- from each decode time to the next one, the first of them behind the time `before`
abbrev pub gaps : ℕ → List AccessUnit → List ℕ
gaps before [] = []
gaps before (unit ∷ units) = (unit.decode - before) ∷ gaps unit.decode units

-- the last number of a list, or `other` where it has none
abbrev pub last_number : ℕ → List ℕ → ℕ
last_number other [] = other
last_number other (number ∷ numbers) = last_number number numbers

-- a unit lasts up to the next decode time; the last one as long as the one before it, or 0 where it is alone
unfoldable pub durations : List AccessUnit → List ℕ
durations [] = []
durations (unit ∷ units) = gaps unit.decode units ++ last_number 0 (gaps unit.decode units) ∷ []

-- durations, and composition times less decode times, as columns
abbrev pub deltas : List AccessUnit → List ℤ
deltas units = map (λ duration. pos duration) (durations units)

abbrev pub offsets : List AccessUnit → List ℤ
offsets units = map (λ unit. pos unit.composition -ℤ pos unit.decode) units

-- the limits of a track's durations and offsets, in order
abbrev pub limit_checks : List AccessUnit → List (Bool × Code)
limit_checks units = (is_long (deltas units), DeltaLimit) ∷ (is_wide (offsets units), OffsetLimit) ∷ []

-- the first that is passed
unfoldable pub limit_fault : List AccessUnit → Option Code
limit_fault units = first_code (limit_checks units)

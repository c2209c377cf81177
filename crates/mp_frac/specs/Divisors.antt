-- Common divisors and common multiples of numbers.
use Rattle.std.specs.Prelude.{ℕ, ◌-◌, ◌*◌, ◌^◌, ◌<◌, ◌≤◌, List, Option, Some, None, nat_le, if◌then◌else◌}
use Rattle.std.specs.List.{AllByRecursion}
use Rattle.std.specs.Int.{◌∣◌}

-- it divides each of the numbers, and is divided by each divisor of them all, also of them all times any `factor`
pub record IsGreatestCommon (numbers : List ℕ) (greatest : ℕ) : Type 0 where
  pub divides : AllByRecursion (λ number. greatest ∣ number) numbers
  pub divided : (factor divisor : ℕ) → AllByRecursion (λ number. divisor ∣ number * factor) numbers → divisor ∣ greatest * factor

-- it is a multiple of both, and divides each other one
pub record IsLeastCommon (a b least : ℕ) : Type 0 where
  pub first : a ∣ least
  pub second : b ∣ least
  pub divides : (other : ℕ) → a ∣ other → b ∣ other → least ∣ other

-- the greatest scale, 4,294,967,295
abbrev pub most : ℕ
most = 2 ^ 32 - 1

-- the number, None where it is above the limit
abbrev pub up_to : ℕ → ℕ → Option ℕ
up_to limit number = if nat_le number limit then Some number else None

-- the number that is wanted, None where it is above the limit
abbrev pub LimitedBy : ℕ → (ℕ → Type 0) → Option ℕ → Type 0
LimitedBy limit IsWanted (Some number) = IsWanted number × (number ≤ limit)
LimitedBy limit IsWanted None = (number : ℕ) × IsWanted number × (limit < number)

-- Scales that grow until times are whole.
use Rattle.std.specs.Prelude.{ℕ, ◌<◌, ◌≤◌, List, Option, Some, None}
use Rattle.std.specs.List.{AllByRecursion}
use Rattle.std.specs.Int.{◌∣◌}
use Rattle.mp_frac.specs.declared.time.Frac.{Frac}
use Rattle.mp_frac.specs.Divisors.{most}
use Rattle.mp_frac.specs.Time.{IsWhole}

-- a multiple of the scale in which all these times are whole
pub record Serves (scale : ℕ) (times : List Frac) (other : ℕ) : Type 0 where
  pub multiple : scale ∣ other
  pub whole : AllByRecursion (IsWhole other) times

-- above 0 it serves, and it divides each other one that does
pub record IsLeastServing (scale : ℕ) (times : List Frac) (settled : ℕ) : Type 0 where
  pub some : 0 < settled
  pub serves : Serves scale times settled
  pub divides : (other : ℕ) → Serves scale times other → settled ∣ other

-- the least one; none where each is above the greatest scale
abbrev pub Settles : ℕ → List Frac → Option ℕ → Type 0
Settles scale times (Some settled) = IsLeastServing scale times settled × (settled ≤ most)
Settles scale times None = (other : ℕ) → 0 < other → Serves scale times other → most < other

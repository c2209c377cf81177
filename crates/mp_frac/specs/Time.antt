-- Times: fractions n / d of seconds, where d is above 0.
use Rattle.std.specs.Prelude.{◌≡◌, ℕ, ◌^◌, ◌<◌, ℤ, pos, ◌*ℤ◌, unsigned_abs, Option, Some, None}
use Rattle.std.specs.Int.{◌∣◌}
use Rattle.std.specs.declared.cmp.Ordering.{Ordering}
use Rattle.std.specs.Ordering.{int_cmp}
use Rattle.mp_frac.specs.declared.time.Frac.{Frac}

-- two times are the same
pub record IsSameTime (time other : Frac) : Type 0 where
  pub positive : 0 < time.d
  pub other_positive : 0 < other.d
  pub crosswise : time.n *ℤ pos other.d ≡ other.n *ℤ pos time.d

-- which of two times comes first
abbrev pub order : Frac → Frac → Ordering
order a b = int_cmp (a.n *ℤ pos b.d) (b.n *ℤ pos a.d)

-- so many ticks of a scale, of which a second has so many
abbrev pub in_ticks : ℤ → ℕ → Frac
in_ticks ticks scale = record { n = ticks; d = scale }

-- the time is whole in the scale
abbrev pub IsWhole : ℕ → Frac → Type 0
IsWhole scale time = (ticks : ℤ) × IsSameTime (in_ticks ticks scale) time

-- the ticks of the scale that the time is, None where it isn't whole in it
abbrev pub GivesTicks : Frac → ℕ → Option ℤ → Type 0
GivesTicks time scale (Some ticks) = IsSameTime (in_ticks ticks scale) time
GivesTicks time scale None = IsWhole scale time → ⊥

-- the multiple of the scale, above 0, in which the time is whole, and which divides each other one
pub record IsLeastWhole (scale : ℕ) (time : Frac) (least : ℕ) : Type 0 where
  pub some : 0 < least
  pub multiple : scale ∣ least
  pub whole : IsWhole least time
  pub divides : (other : ℕ) → scale ∣ other → IsWhole other time → least ∣ other

-- a time whose products with 32 bits fit 128 bits with a sign
pub record IsInRange (time : Frac) : Type 0 where
  pub some : 0 < time.d
  pub small : unsigned_abs time.n < 2 ^ 94

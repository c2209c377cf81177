-- What the law of times says.
use Rattle.std.specs.Prelude.{ℕ, ◌*◌, ◌<◌, unsigned_abs, ◌↔◌}
use Rattle.std.specs.Int.{◌∣◌}
use Rattle.mp_frac.specs.declared.time.Frac.{Frac}
use Rattle.mp_frac.specs.Time.{IsWhole}

-- a time is whole in a scale, of at least one tick a second, exactly where its d divides its ticks times the scale
abbrev pub WholenessIsDivision : Type 0
WholenessIsDivision = (scale : ℕ) (time : Frac) → 0 < scale → 0 < time.d → IsWhole scale time ↔ time.d ∣ unsigned_abs time.n * scale

-- The least multiple of a scale that serves is the first one that does.
use Rattle.std.specs.Prelude.{◌≡◌, ℕ, ◌<◌, List, Option}
use Rattle.std.specs.List.{AllByRecursion}
use Rattle.mp_frac.specs.declared.time.Frac.{Frac}
use Rattle.mp_movie.specs.Settling.{Settles}
use Rattle.track_ops.specs.Scales.{settled}

-- what settles times is what is found for them
abbrev pub LeastScalesAreFound : Type 0
LeastScalesAreFound =
    (scale : ℕ) (times : List Frac) (result : Option ℕ) → 0 < scale → AllByRecursion (λ time. 0 < time.d) times → Settles scale times result → settled scale times ≡ result

-- Bytes that an object of the outside tells, or doesn't tell.
use Rattle.std.specs.Prelude.{List, ℕ, ◌++◌, Option, option_map}

-- what is told, and then the piece
abbrev pub followed_by : Option (List ℕ) → List ℕ → Option (List ℕ)
followed_by told piece = option_map (λ bytes. bytes ++ piece) told

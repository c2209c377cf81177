-- Emulation prevention (H.264, 7.3.1): the bytes of a unit without those that keep start codes out of it.
use Rattle.std.specs.Prelude.{◌≡◌, ℕ, zero, suc, List, [], ◌∷◌, ◌++◌, drop, replicate}

-- without each 03 that follows two zeros
unfoldable pub clean : List ℕ → List ℕ
clean [] = []
clean (zero ∷ zero ∷ suc (suc (suc zero)) ∷ rest) = 0 ∷ 0 ∷ clean rest
clean (x ∷ rest) = x ∷ clean rest

-- the clean bytes of a front are a front of all clean bytes
abbrev pub IsCleanFront : List ℕ → List ℕ → Type 0
IsCleanFront front rest = (more : List ℕ) × (clean (front ++ rest) ≡ clean front ++ more)

-- the clean bytes that are still to come, where so many zeros were the last bytes
abbrev pub clean_behind : ℕ → List ℕ → List ℕ
clean_behind z rest = drop z (clean (replicate z 0 ++ rest))

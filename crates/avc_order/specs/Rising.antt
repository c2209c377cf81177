-- The counts of one sequence, by themselves.
use Rattle.std.specs.Prelude.{◌≡◌, ◌≢◌, ℕ, ◌+◌, ◌<◌, ◌≤◌, ℤ, ◌≤ℤ◌, List, length}
use Rattle.avc_order.specs.Ranks.{count_at}

-- no later one is lower
abbrev pub Rises : List ℤ → Type 0
Rises counts = (i j : ℕ) → i ≤ j → j < length counts → count_at counts i ≤ℤ count_at counts j

-- no two of the counts up to there are equal
abbrev pub AreAllDistinct : List ℤ → ℕ → Type 0
AreAllDistinct counts up_to = (i j : ℕ) → j < i → i < up_to → count_at counts j ≢ count_at counts i

-- the first that an earlier one is equal to
pub record IsFirstTie (counts : List ℤ) (at : ℕ) : Type 0 where
  pub within : at < length counts
  pub earlier : ℕ
  pub before : earlier < at
  pub same : count_at counts earlier ≡ count_at counts at
  pub first : AreAllDistinct counts at

-- the same, where the first of the counts is that of a later picture
abbrev pub IsTieBehind : List ℤ → ℕ → ℕ → Type 0
IsTieBehind counts first picture = (at : ℕ) × (picture ≡ first + at) × IsFirstTie counts at

-- How many pictures later than it is decoded each must be shown, so that none is shown before it is decoded.
use Rattle.std.specs.Prelude.{◌≡◌, ◌⊎◌, ℕ, ◌+◌, ◌<◌, ◌≤◌, Bool, List, length, slice_index_or}
use Rattle.avc_order.specs.Sequence.{BeginsAt}

-- the picture is decoded so many pictures behind its place in the order of showing
abbrev pub IsLate : List ℕ → List Bool → ℕ → Type 0
IsLate ranks syncs delay =
    (first k : ℕ) × BeginsAt syncs first k × (k < length ranks) × (k ≡ first + slice_index_or ranks k 0 + delay)

-- the least delay that is enough for each
pub record IsDelay (ranks : List ℕ) (syncs : List Bool) (delay : ℕ) : Type 0 where
  pub enough : (first k : ℕ) → BeginsAt syncs first k → k < length ranks → k ≤ first + slice_index_or ranks k 0 + delay
  pub least : (delay ≡ 0) ⊎ IsLate ranks syncs delay

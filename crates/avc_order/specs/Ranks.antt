-- The place of a picture in the order in which those of its sequence are shown: how many of them have a lower count (H.264, C.4.5.3).
use Rattle.std.specs.Prelude.{◌≡◌, ◌≢◌, ℕ, ◌+◌, ◌-◌, ◌<◌, ◌≤◌, ℤ, pos, int_lt, Bool, if◌then◌else◌, List, [], ◌∷◌, length, take, drop, slice_index_or}
use Rattle.avc_order.specs.Sequence.{IsSequence}

-- how many are lower
unfoldable pub lower : ℤ → List ℤ → ℕ
lower c [] = 0
lower c (x ∷ xs) = (if int_lt x c then 1 else 0) + lower c xs

-- the count of a picture
abbrev pub count_at : List ℤ → ℕ → ℤ
count_at counts k = slice_index_or counts k (pos 0)

-- the counts of a sequence
abbrev pub counts_in : List ℤ → ℕ → ℕ → List ℤ
counts_in counts first end = take (end - first) (drop first counts)

-- each picture has its rank in its sequence
pub record AreRanks (counts : List ℤ) (syncs : List Bool) (ranks : List ℕ) : Type 0 where
  pub each : length ranks ≡ length counts
  pub rank : (first end k : ℕ) → IsSequence syncs first end → first ≤ k → k < end
      → slice_index_or ranks k 0 ≡ lower (count_at counts k) (counts_in counts first end)

-- no two of the pictures up to there, of one sequence, have one count
abbrev pub AreDistinct : List ℤ → List Bool → ℕ → Type 0
AreDistinct counts syncs up_to =
    (first end j k : ℕ) → IsSequence syncs first end → first ≤ j → j < k → k < end → k < up_to → count_at counts j ≢ count_at counts k

-- the first picture whose count an earlier one of its sequence has
pub record IsTie (counts : List ℤ) (syncs : List Bool) (picture : ℕ) : Type 0 where
  pub first : ℕ
  pub end : ℕ
  pub sequence : IsSequence syncs first end
  pub inside : picture < end
  pub earlier : ℕ
  pub from : first ≤ earlier
  pub before : earlier < picture
  pub same : count_at counts earlier ≡ count_at counts picture
  pub none_before : AreDistinct counts syncs picture

-- Coded video sequences: from a picture that is marked as sync to before the next such picture (H.264, 3).
use Rattle.std.specs.Prelude.{◌≡◌, ◌⊎◌, ℕ, ◌<◌, ◌≤◌, Bool, true, false, List, length, slice_index_or}

-- whether the picture is a sync picture
abbrev pub is_sync : List Bool → ℕ → Bool
is_sync syncs k = slice_index_or syncs k false

-- the pictures from `first` to before `end` are one sequence
pub record IsSequence (syncs : List Bool) (first end : ℕ) : Type 0 where
  pub some : first < end
  pub within : end ≤ length syncs
  pub sync : is_sync syncs first ≡ true
  pub alone : (k : ℕ) → first < k → k < end → is_sync syncs k ≡ false
  pub next : (end ≡ length syncs) ⊎ (is_sync syncs end ≡ true)

-- the sequence of the picture begins here
pub record BeginsAt (syncs : List Bool) (first picture : ℕ) : Type 0 where
  pub before : first ≤ picture
  pub sync : is_sync syncs first ≡ true
  pub alone : (k : ℕ) → first < k → k ≤ picture → is_sync syncs k ≡ false

-- each picture stands in one sequence, and in no other
pub record StandsInOne (syncs : List Bool) (picture : ℕ) : Type 0 where
  pub first : ℕ
  pub end : ℕ
  pub sequence : IsSequence syncs first end
  pub from : first ≤ picture
  pub before : picture < end
  pub no_other : (a b : ℕ) → IsSequence syncs a b → a ≤ picture → picture < b → (a ≡ first) × (b ≡ end)

-- pictures and their marks: the first is a sync picture
pub record AreMarked (pictures : ℕ) (syncs : List Bool) : Type 0 where
  pub same : pictures ≡ length syncs
  pub few : length syncs ≤ 8388608
  pub starts : 0 < length syncs → is_sync syncs 0 ≡ true

-- The first fault of a list of checks, row by row.
use Rattle.std.proofs.Common.{◌≡◌, ℕ, zero, suc, ◌+◌, ◌-◌, ◌<◌, ◌≤◌, ◌⊎◌, ◌∷◌, map, Option, Some, None, refl, sym, ap, ◌∙◌, arith, inl, inr}
use Rattle.std.proofs.lemmas.Bool.{cases_lt}
use Rattle.std.specs.List.{range_with_len}
use Rattle.mp_ports.specs.Checks.{first_some}

-- the first fault of the rows from `j` on, of `n`
abbrev pub faults_from : {A : Type 0} → (ℕ → Option A) → ℕ → ℕ → Option A
faults_from fault n j = first_some (map fault (range_with_len j (n - j)))

one_row : {A : Type 0} (fault : ℕ → Option A) (n j : ℕ) → j < n → faults_from fault n j ≡ first_some (fault j ∷ map fault (range_with_len (j + 1) (n - (j + 1))))
one_row fault n j lt = let e : n - j ≡ suc (n - (j + 1)) = omega arith in rw e refl

-- a row without a fault
pub goes_on : {A : Type 0} (fault : ℕ → Option A) (n j : ℕ) (all : Option A) → j < n → fault j ≡ None → faults_from fault n j ≡ all → faults_from fault n (j + 1) ≡ all
goes_on fault n j all lt e h =
    sym (one_row fault n j lt ∙ ap (λ (found : Option _). first_some (found ∷ map fault (range_with_len (j + 1) (n - (j + 1))))) e) ∙ h

-- a row with one
pub stops : {A : Type 0} (fault : ℕ → Option A) (n j : ℕ) (all : Option A) (found : A) → j < n → fault j ≡ Some found → faults_from fault n j ≡ all → all ≡ Some found
stops fault n j all found lt e h =
    sym h ∙ (one_row fault n j lt ∙ ap (λ (o : Option _). first_some (o ∷ map fault (range_with_len (j + 1) (n - (j + 1))))) e)

-- no row is left
pub ends : {A : Type 0} (fault : ℕ → Option A) (n j : ℕ) (all : Option A) → n ≤ j → faults_from fault n j ≡ all → all ≡ None
ends fault n j all le h = let e : n - j ≡ 0 = omega arith in sym h ∙ rw e refl

-- where there is no fault, no row has one
pub no_row : {A : Type 0} (fault : ℕ → Option A) (n j : ℕ) → first_some (map fault (range_with_len j n)) ≡ None → (k : ℕ) → j ≤ k → k < j + n → fault k ≡ None
no_row fault zero j h k le lt = absurd (omega arith)
no_row fault (suc n) j h k le lt = by (fault j) refl h (cases_lt j k) (λ rest later. no_row fault n (j + 1) rest k (omega arith) (omega arith))
  where
    by : (found : Option _) → fault j ≡ found → first_some (found ∷ map fault (range_with_len (j + 1) n)) ≡ None → (j < k) ⊎ (k ≤ j)
        → (first_some (map fault (range_with_len (j + 1) n)) ≡ None → j < k → fault k ≡ None) → fault k ≡ None
    by None e h (inl later) behind = behind h later
    by None e h (inr here) behind = let same : k ≡ j = omega arith in rw same e
    by (Some x) e h place behind = absurd cc

-- One byte further in a unit that is cleaned.
use Rattle.std.proofs.Common.{◌≡◌, ◌≢◌, ℕ, zero, suc, ◌+◌, ◌<◌, ◌≤◌, List, [], ◌∷◌, ◌++◌, drop, refl, ap, arith}
use Rattle.avc_units.specs.Emulation.{clean, clean_behind}

zero_first : (rest : List ℕ) → clean (0 ∷ rest) ≡ 0 ∷ drop 1 (clean (0 ∷ rest))
unfolding clean
zero_first [] = refl
zero_first (suc x ∷ rest) = refl
zero_first (zero ∷ []) = refl
zero_first (zero ∷ zero ∷ rest) = refl
zero_first (zero ∷ suc zero ∷ rest) = refl
zero_first (zero ∷ suc (suc zero) ∷ rest) = refl
zero_first (zero ∷ suc (suc (suc zero)) ∷ rest) = refl
zero_first (zero ∷ suc (suc (suc (suc x))) ∷ rest) = refl

two_first : (rest : List ℕ) → clean (0 ∷ 0 ∷ rest) ≡ 0 ∷ 0 ∷ drop 2 (clean (0 ∷ 0 ∷ rest))
unfolding clean
two_first [] = refl
two_first (zero ∷ rest) = ap (λ (t : List ℕ). 0 ∷ t) (zero_first (0 ∷ rest))
two_first (suc zero ∷ rest) = refl
two_first (suc (suc zero) ∷ rest) = refl
two_first (suc (suc (suc zero)) ∷ rest) = refl
two_first (suc (suc (suc (suc x))) ∷ rest) = refl

pub clean_end : (z : ℕ) → z ≤ 2 → clean_behind z [] ≡ []
unfolding clean
clean_end zero h = refl
clean_end (suc zero) h = refl
clean_end (suc (suc zero)) h = refl
clean_end (suc (suc (suc z))) h = absurd (omega arith)

pub clean_zero : (z : ℕ) (rest : List ℕ) → z < 2 → clean_behind z (0 ∷ rest) ≡ 0 ∷ clean_behind (z + 1) rest
unfolding clean
clean_zero zero rest h = zero_first rest
clean_zero (suc zero) rest h = ap (drop 1) (two_first rest)
clean_zero (suc (suc z)) rest h = absurd (omega arith)

pub clean_third : (rest : List ℕ) → clean_behind 2 (0 ∷ rest) ≡ 0 ∷ clean_behind 2 rest
unfolding clean
clean_third rest = ap (drop 1) (two_first rest)

pub clean_skip : (rest : List ℕ) → clean_behind 2 (3 ∷ rest) ≡ clean_behind 0 rest
unfolding clean
clean_skip rest = refl

pub clean_other : (z x : ℕ) (rest : List ℕ) → z ≤ 2 → x ≢ 0 → (z ≡ 2 → x ≢ 3) → clean_behind z (x ∷ rest) ≡ x ∷ clean_behind 0 rest
unfolding clean
clean_other z zero rest h some other = absurd (some refl)
clean_other zero (suc x) rest h some other = refl
clean_other (suc zero) (suc x) rest h some other = refl
clean_other (suc (suc zero)) (suc zero) rest h some other = refl
clean_other (suc (suc zero)) (suc (suc zero)) rest h some other = refl
clean_other (suc (suc zero)) (suc (suc (suc zero))) rest h some other = absurd (other refl refl)
clean_other (suc (suc zero)) (suc (suc (suc (suc x)))) rest h some other = refl
clean_other (suc (suc (suc z))) (suc x) rest h some other = absurd (omega arith)

-- the clean bytes of a front are a front of the clean bytes
pub front_cleaned : (front rest : List ℕ) → (more : List ℕ) × (clean (front ++ rest) ≡ clean front ++ more)
unfolding clean
front_cleaned [] rest = (clean rest, refl)
front_cleaned (suc x ∷ front) rest = let r = front_cleaned front rest in (r.0, ap (λ (t : List ℕ). suc x ∷ t) r.1)
front_cleaned (zero ∷ []) rest = (drop 1 (clean (0 ∷ rest)), zero_first rest)
front_cleaned (zero ∷ suc y ∷ front) rest = let r = front_cleaned (suc y ∷ front) rest in (r.0, ap (λ (t : List ℕ). 0 ∷ t) r.1)
front_cleaned (zero ∷ zero ∷ []) rest = (drop 2 (clean (0 ∷ 0 ∷ rest)), two_first rest)
front_cleaned (zero ∷ zero ∷ zero ∷ front) rest = let r = front_cleaned (zero ∷ zero ∷ front) rest in (r.0, ap (λ (t : List ℕ). 0 ∷ t) r.1)
front_cleaned (zero ∷ zero ∷ suc zero ∷ front) rest = let r = front_cleaned (zero ∷ suc zero ∷ front) rest in (r.0, ap (λ (t : List ℕ). 0 ∷ t) r.1)
front_cleaned (zero ∷ zero ∷ suc (suc zero) ∷ front) rest = let r = front_cleaned (zero ∷ suc (suc zero) ∷ front) rest in (r.0, ap (λ (t : List ℕ). 0 ∷ t) r.1)
front_cleaned (zero ∷ zero ∷ suc (suc (suc zero)) ∷ front) rest = let r = front_cleaned front rest in (r.0, ap (λ (t : List ℕ). 0 ∷ 0 ∷ t) r.1)
front_cleaned (zero ∷ zero ∷ suc (suc (suc (suc x))) ∷ front) rest = let r = front_cleaned (zero ∷ suc (suc (suc (suc x))) ∷ front) rest in (r.0, ap (λ (t : List ℕ). 0 ∷ t) r.1)

-- Columns whose numbers aren't negative, as lists of natural numbers, and their sums.
use Rattle.std.proofs.Common.{◌≡◌, ℕ, zero, suc, ◌+◌, ◌*◌, ◌-◌, ◌^◌, ◌<◌, ◌≤◌, ℤ, pos, negsuc, ◌≤ℤ◌, ◌+ℤ◌, List, [], ◌∷◌, length, map, get_or, refl, sym, ap, ◌∙◌, arith, subst, max}
use Rattle.std.specs.Prelude.{All, sum, unsigned_abs, fold}
use Rattle.std.specs.List.{AllByRecursion}
use Rattle.std.proofs.lemmas.Int.{ints}
use Rattle.std.proofs.lemmas.List.{get_or_default}
use Rattle.std.proofs.lemmas.List.Sums.{sum_by-cons}
use Rattle.mp_columns.specs.Numbers.{total, largest}
use Rattle.mp_movie.specs.Placed.{PlacedTrack, naturals}
use Rattle.mp_movie.specs.WholeParts.{AreColumns, IsNatural}

-- what holds of each item holds of one
pub at_place : {A : Type 0} (P : A → Type 0) (xs : List A) (i : ℕ) (d : A) → AllByRecursion P xs → i < length xs → P (get_or xs i d)
at_place P [] i d all lt = absurd (omega arith)
at_place P (x ∷ xs) zero d all lt = all.0
at_place P (x ∷ xs) (suc i) d all lt = at_place P xs i d all.1 (omega arith)

-- what holds at each place holds by recursion
pub by_recursion : {A : Type 0} (P : A → Type 0) (xs : List A) → All P xs → AllByRecursion P xs
by_recursion P [] all = tt
by_recursion P (x ∷ xs) all = (all 0 x (omega arith), by_recursion P xs (λ i d lt. all (suc i) d (omega arith)))

pub natural_is : (x : ℤ) → IsNatural x → pos (unsigned_abs x) ≡ x
natural_is (pos n) h = refl
natural_is (negsuc n) h = absurd (omega (arith, h))

pub is_natural : (n : ℕ) → IsNatural (pos n)
is_natural n = omega (arith, ints)

-- the sum, from an earlier one on
total_from : (n : ℕ) (xs : List ℤ) → AllByRecursion IsNatural xs → fold ◌+ℤ◌ (pos n) xs ≡ pos (fold (λ (a : ℕ) (x : ℕ). a + x) n (naturals xs))
total_from n [] all = refl
total_from n (pos x ∷ xs) all = total_from (n + x) xs all.1
total_from n (negsuc x ∷ xs) all = absurd (omega (arith, all.0))

pub total_is : (xs : List ℤ) → All IsNatural xs → total xs ≡ pos (sum (naturals xs))
total_is xs all = total_from 0 xs (by_recursion IsNatural xs all)

-- a column that isn't negative is its natural numbers
pub column_is : (xs : List ℤ) → AllByRecursion IsNatural xs → map pos (naturals xs) ≡ xs
column_is [] all = refl
column_is (x ∷ xs) all = rw (natural_is x all.0, column_is xs all.1) refl

-- the sizes of samples aren't negative
pub sizes_natural : (track : PlacedTrack) → AreColumns track → All IsNatural track.sizes
sizes_natural track h = λ i d lt. subst IsNatural (sym (get_or_default track.sizes i d (pos 0) lt ∙ h.sizes i (omega (arith, lt, h.sizes_len)))) (is_natural _)

-- a bound of the greatest number is one of each
largest_from : (limit n : ℕ) (xs : List ℤ) → fold (λ most x. max most (unsigned_abs x)) n xs ≤ limit → (n ≤ limit) × AllByRecursion (λ x. unsigned_abs x ≤ limit) xs
largest_from limit n [] le = (le, tt)
largest_from limit n (x ∷ xs) le =
    let rest = largest_from limit (max n (unsigned_abs x)) xs le in
    (omega (arith, rest.0), (omega (arith, rest.0), rest.1))

pub each_within : (limit : ℕ) (xs : List ℤ) → largest xs ≤ limit → AllByRecursion (λ x. unsigned_abs x ≤ limit) xs
each_within limit xs le = (largest_from limit 0 xs le).1

-- and the other way round
within_from : (limit n : ℕ) (xs : List ℤ) → n ≤ limit → AllByRecursion (λ x. unsigned_abs x ≤ limit) xs → fold (λ most x. max most (unsigned_abs x)) n xs ≤ limit
within_from limit n [] le all = le
within_from limit n (x ∷ xs) le all = within_from limit (max n (unsigned_abs x)) xs (let first = all.0 in omega arith) all.1

pub largest_within : (limit : ℕ) (xs : List ℤ) → AllByRecursion (λ x. unsigned_abs x ≤ limit) xs → largest xs ≤ limit
largest_within limit xs all = within_from limit 0 xs (omega arith) all

-- the sum is within the bound, times the number of items
pub sum_within : (limit : ℕ) (xs : List ℤ) → AllByRecursion (λ x. unsigned_abs x ≤ limit) xs → sum (naturals xs) ≤ length xs * limit
sum_within limit [] all = omega arith
sum_within limit (x ∷ xs) all = omega (arith, all.0, sum_within limit xs all.1, sum_by-cons (λ (n : ℕ). n) (unsigned_abs x) (naturals xs))

-- The sum of the first numbers of a column that aren't negative.
use Rattle.std.proofs.Common.{◌≡◌, ℕ, ℤ, zero, suc, pos, negsuc, ◌+◌, ◌*◌, ◌-◌, ◌^◌, ◌<◌, ◌≤◌, ◌≤ℤ◌, ◌+ℤ◌, Bool, true, false, cond, eqb, List, [], ◌∷◌, length, map, take, get_or, refl, sym, ap, ◌∙◌, arith, subst}
use Rattle.std.specs.Prelude.{All, sum, unsigned_abs, fold}
use Rattle.std.specs.Int.{w32, FitsUnsigned}
use Rattle.std.specs.List.{AllByRecursion}
use Rattle.std.proofs.lemmas.Bool.{eqb-true}
use Rattle.std.proofs.lemmas.Int.{ints}
use Rattle.std.proofs.lemmas.List.{take-map}
use Rattle.std.proofs.lemmas.List.Elements.{All-take}
use Rattle.std.proofs.lemmas.List.Sums.{sum_by-cons}
use Rattle.mp_columns.specs.Numbers.{total}
use Rattle.mp_movie.specs.Placed.{naturals}
use Rattle.mp_movie.specs.WholeParts.{IsNatural}

pub by_recursion : {A : Type 0} (P : A → Type 0) (xs : List A) → All P xs → AllByRecursion P xs
by_recursion P [] all = tt
by_recursion P (x ∷ xs) all = (all 0 x (omega arith), by_recursion P xs (λ i d lt. all (suc i) d (omega arith)))

-- the sum, from an earlier one on
total_from : (n : ℕ) (xs : List ℤ) → AllByRecursion IsNatural xs → fold ◌+ℤ◌ (pos n) xs ≡ pos (fold (λ (a : ℕ) (x : ℕ). a + x) n (naturals xs))
total_from n [] all = refl
total_from n (pos x ∷ xs) all = total_from (n + x) xs all.1
total_from n (negsuc x ∷ xs) all = absurd (omega (arith, all.0))

pub front_total : (column : List ℤ) (count : ℕ) → All IsNatural column → total (take count column) ≡ pos (sum (take count (naturals column)))
front_total column count natural =
    total_from 0 (take count column) (by_recursion IsNatural (take count column) (All-take IsNatural count column natural))
    ∙ ap (λ (numbers : List ℕ). pos (sum numbers)) (sym (take-map unsigned_abs count column))

-- numbers of 32 bits
pub front_short : (column : List ℤ) (count : ℕ) → AllByRecursion (FitsUnsigned w32) column → sum (take count (naturals column)) ≤ 2 ^ 32 * count
front_short [] zero fit = omega arith
front_short [] (suc count) fit = omega arith
front_short (x ∷ column) zero fit = omega arith
front_short (x ∷ column) (suc count) fit =
    let rest = front_short column count fit.1 in
    let sum_is = sum_by-cons (λ (n : ℕ). n) (unsigned_abs x) (take count (naturals column)) in
    let one : unsigned_abs x ≤ 2 ^ 32 = here x fit.0 in
    omega (arith, rest, sum_is, one)
  where
    here : (z : ℤ) → FitsUnsigned w32 z → unsigned_abs z ≤ 2 ^ 32
    here (pos n) fits = omega (arith, ints, fits)
    here (negsuc n) fits = omega (arith, ints, fits)

pub fits_natural : (column : List ℤ) → All (FitsUnsigned w32) column → All IsNatural column
fits_natural column fit = λ k d lt. let fits = fit k d lt in omega (arith, ints, fits)

pub natural_of : (z : ℤ) → IsNatural z → z ≡ pos (unsigned_abs z)
natural_of z h = omega (arith, ints, h)

-- a place that isn't another
pub unless_same : (a b n : ℕ) → (a ≡ b → ⊥) → n ≡ cond (eqb a b) 0 n
unless_same a b n other = by (eqb a b) refl
  where
    by : (test : Bool) → eqb a b ≡ test → n ≡ cond test 0 n
    by true is = absurd (other (eqb-true a b is))
    by false is = refl

-- The greatest common divisor of a list, item after item.
use Rattle.std.proofs.Common.{◌≡◌, ℕ, ◌+◌, ◌*◌, ◌≤◌, ◌<◌, List, [], ◌∷◌, length, drop, map, get_or, ℤ, pos, sym, ap, subst, ◌∙◌, arith}
use Rattle.std.specs.Prelude.{unsigned_abs}
use Rattle.std.specs.Int.{◌∣◌}
use Rattle.std.proofs.Math.Nat.{dvd_refl, dvd-zero, dvd_trans}
use Rattle.std.proofs.lemmas.List.{drop_more, drop_all}
use Rattle.mp_frac.specs.Divisors.{IsGreatestCommon}

-- 0 divides nothing, and is divided by all
pub without_zero : (numbers : List ℕ) (greatest : ℕ) → IsGreatestCommon (0 ∷ numbers) greatest → IsGreatestCommon numbers greatest
without_zero numbers g h = record { divides = h.divides.1; divided = λ factor divisor all. h.divided factor divisor (nothing factor divisor, all) }
  where
    nothing : (factor divisor : ℕ) → divisor ∣ 0 * factor
    nothing factor divisor = let none : 0 * factor ≡ 0 = omega arith in rw none (dvd-zero divisor)

-- two numbers in front are as good as their divisor
two_in_front : (a b both : ℕ) (rest : List ℕ) (greatest : ℕ) → IsGreatestCommon (a ∷ b ∷ []) both → IsGreatestCommon (both ∷ rest) greatest → IsGreatestCommon (a ∷ b ∷ rest) greatest
two_in_front a b both rest g two h = record {
  divides = (dvd_trans g h.divides.0 two.divides.0, (dvd_trans g h.divides.0 two.divides.1.0, h.divides.1));
  divided = λ factor divisor all. h.divided factor divisor (two.divided factor divisor (all.0, (all.1.0, tt)), all.1.1);
}

one_alone : (number : ℕ) → IsGreatestCommon (number ∷ []) number
one_alone number = record { divides = (dvd_refl number, tt); divided = λ factor divisor all. all.0 }

-- so far, and what is left, have the divisor of all
abbrev pub IsDivided : List ℤ → ℕ → ℕ → Type 0
IsDivided xs i divisor = (greatest : ℕ) → IsGreatestCommon (divisor ∷ map unsigned_abs (drop i xs)) greatest → IsGreatestCommon (map unsigned_abs xs) greatest

pub divided_more : (xs : List ℤ) (i old new size : ℕ) → i < length xs → size ≡ unsigned_abs (get_or xs i (pos 0)) → IsGreatestCommon (old ∷ size ∷ []) new → IsDivided xs i old → IsDivided xs (i + 1) new
divided_more xs i old new size lt is two so_far greatest h =
    so_far greatest
    (subst (λ (left : List ℕ). IsGreatestCommon (old ∷ left) greatest) (ap (λ (n : ℕ). n ∷ map unsigned_abs (drop (i + 1) xs)) is ∙ sym (ap (map unsigned_abs) (drop_more xs i (pos 0) lt))) (two_in_front old size new (map unsigned_abs (drop (i + 1) xs)) greatest two h))

pub divided_whole : (xs : List ℤ) (i divisor : ℕ) → length xs ≤ i → IsDivided xs i divisor → IsGreatestCommon (map unsigned_abs xs) divisor
divided_whole xs i divisor past so_far = so_far divisor (subst (λ (left : List ℤ). IsGreatestCommon (divisor ∷ map unsigned_abs left) divisor) (sym (drop_all i xs past)) (one_alone divisor))

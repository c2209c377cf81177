-- Common divisors and multiples.
use Rattle.std.proofs.Common.{◌≡◌, ℕ, ◌+◌, ◌-◌, ◌*◌, ◌/◌, ◌%◌, ◌<◌, Bool, true, false, cond, leb, Some, None, [], ◌∷◌, refl, sym, ap, subst, ◌∙◌, arith}
use Rattle.std.specs.Int.{◌∣◌}
use Rattle.std.proofs.Math.Nat.{dvd_refl, dvd-zero, dvd-mul_left, dvd-mul_left_of_dvd, dvd-add, dvd-sub, div-mul_cancel, dvd_of_mul-dvd-mul_right, mul-dvd-mul_left, mul_comm, mul_assoc, add-mul, div-add-mod'}
use Rattle.std.proofs.lemmas.Bool.{leb-true, leb-false}
use Rattle.mp_frac.specs.Divisors.{IsGreatestCommon, IsLeastCommon, LimitedBy, up_to}

pub greatest_with_zero : (a b : ℕ) → b ≡ 0 → IsGreatestCommon (a ∷ b ∷ []) a
greatest_with_zero a b e = record { divides = (dvd_refl a, (rw e (dvd-zero a), tt)); divided = λ factor divisor all. all.0 }

-- a number is a multiple of another and a rest
parts : (a b k : ℕ) → a * k ≡ (a / b) * (b * k) + (a % b) * k
parts a b k = ap (λ (x : ℕ). x * k) (sym (div-add-mod' a b)) ∙ (add-mul (a / b * b) (a % b) k ∙ ap (λ (x : ℕ). x + a % b * k) (mul_assoc (a / b) b k))

-- what divides both divides the rest
pub divides_rest : (a b k d : ℕ) → d ∣ a * k → d ∣ b * k → d ∣ (a % b) * k
divides_rest a b k d p q =
    let whole : d ∣ (a / b) * (b * k) + (a % b) * k = subst (λ (x : ℕ). d ∣ x) (parts a b k) p in
    let part : d ∣ (a / b) * (b * k) = dvd-mul_left_of_dvd d q (a / b) in
    let left : ((a / b) * (b * k) + (a % b) * k) - (a / b) * (b * k) ≡ (a % b) * k = omega arith in
    subst (λ (x : ℕ). d ∣ x) left (dvd-sub d whole part)

-- what divides the rest times m, and the divisor, divides the number times m
pub divides_whole : (n d m : ℕ) → d ∣ (n % d) * m → d ∣ d * m → d ∣ n * m
divides_whole n d m rest multiple = subst (λ (x : ℕ). d ∣ x) (sym (parts n d m)) (dvd-add d (dvd-mul_left_of_dvd d multiple (n / d)) rest)

pub greatest_of_rest : (a b greatest : ℕ) → IsGreatestCommon (b ∷ a % b ∷ []) greatest → IsGreatestCommon (a ∷ b ∷ []) greatest
greatest_of_rest a b g h = record {
  divides = (subst (λ (x : ℕ). g ∣ x) (div-add-mod' a b) (dvd-add g (dvd-mul_left_of_dvd g h.divides.0 (a / b)) h.divides.1.0), (h.divides.0, tt));
  divided = λ k d all. h.divided k d (all.1.0, (divides_rest a b k d all.0 all.1.0, tt));
}

-- the wanted number, where 32 bits hold it
pub wanted_up_to : (limit number : ℕ) (IsWanted : ℕ → Type 0) → IsWanted number → LimitedBy limit IsWanted (up_to limit number)
wanted_up_to limit number IsWanted is = by (leb number limit) refl
  where
    by : (small : Bool) → leb number limit ≡ small → LimitedBy limit IsWanted (cond small (Some number) None)
    by true e = (is, leb-true number limit e)
    by false e = (number, is, leb-false number limit e)

-- ---- the least common multiple

-- a product without its common divisor, times that divisor
back_times : (a b g : ℕ) → g ∣ a → (a / g * b) * g ≡ a * b
back_times a b g h = mul_assoc (a / g) b g ∙ (ap (λ (x : ℕ). a / g * x) (mul_comm b g) ∙ (sym (mul_assoc (a / g) g b) ∙ ap (λ (x : ℕ). x * b) (div-mul_cancel g h)))

pub least_from_greatest : (a b g : ℕ) → IsGreatestCommon (a ∷ b ∷ []) g → 0 < g → IsLeastCommon a b (a / g * b)
least_from_greatest a b g h some = record {
  first = subst (λ (x : ℕ). x ∣ a / g * b) (div-mul_cancel g h.divides.0) (mul-dvd-mul_left g (a / g) h.divides.1.0);
  second = dvd-mul_left b (a / g);
  divides = λ n p q.
      let both : a * b ∣ g * n = h.divided n (a * b) (mul-dvd-mul_left b a q, (subst (λ (x : ℕ). x ∣ b * n) (mul_comm b a) (mul-dvd-mul_left a b p), tt)) in
      let turned : (a / g * b) * g ∣ n * g = subst (λ (x : ℕ). (a / g * b) * g ∣ x) (mul_comm g n) (subst (λ (x : ℕ). x ∣ g * n) (sym (back_times a b g h.divides.0)) both) in
      dvd_of_mul-dvd-mul_right (a / g * b) some turned;
}

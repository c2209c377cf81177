-- A time is whole in a scale exactly where its d divides its ticks times the scale.
use Rattle.std.proofs.Common.{◌≡◌, ℕ, zero, suc, ◌*◌, ◌/◌, ◌%◌, ◌<◌, [], ◌∷◌, ℤ, pos, ◌*ℤ◌, int_div, int_rem, refl, sym, ap, subst, ◌∙◌, arith}
use Rattle.std.specs.Prelude.{negsuc, neg_ℤ, unsigned_abs}
use Rattle.std.specs.Int.{◌∣◌}
use Rattle.std.proofs.lemmas.Int.{ints, quot-rem, unsigned_abs-mul}
use Rattle.std.proofs.Math.Nat.{dvd-mul_left, dvd-mul_right, div-mul_cancel, mul-div_cancel', dvd_of_mul-dvd-mul_right, mul-dvd-mul_left, mul-dvd-mul_right, mul_comm, mul_assoc, mod-eq-zero_of_dvd, pos_of_dvd_of_pos}
use Rattle.mp_frac.specs.declared.time.Frac.{Frac}
use Rattle.mp_frac.specs.Divisors.{IsGreatestCommon}
use Rattle.mp_frac.specs.Time.{IsLeastWhole, IsSameTime, IsWhole, in_ticks}
use Rattle.mp_frac.proofs.CommonDivisors.{divides_rest, divides_whole}

pub whole_is_divided : (scale : ℕ) (time : Frac) → IsWhole scale time → time.d ∣ unsigned_abs time.n * scale
whole_is_divided scale time (ticks, e) =
    let same : unsigned_abs ticks * time.d ≡ unsigned_abs time.n * scale = sym (unsigned_abs-mul ticks (pos time.d)) ∙ (ap unsigned_abs e.crosswise ∙ unsigned_abs-mul time.n (pos scale)) in
    subst (λ (x : ℕ). time.d ∣ x) same (dvd-mul_left time.d (unsigned_abs ticks))

negative_product : (q d : ℕ) → neg_ℤ (pos q) *ℤ pos d ≡ neg_ℤ (pos (q * d))
negative_product zero d = let none : zero * d ≡ zero = omega arith in rw none refl
negative_product (suc q) d = refl

quotient_is : (scale d : ℕ) (n : ℤ) → d ∣ unsigned_abs n * scale → (ticks : ℤ) × (ticks *ℤ pos d ≡ n *ℤ pos scale)
quotient_is scale d (pos n) h = (pos (n * scale / d), ap pos (div-mul_cancel d h))
quotient_is scale d (negsuc n) h = (neg_ℤ (pos (suc n * scale / d)), negative_product (suc n * scale / d) d ∙ ap (λ (x : ℕ). neg_ℤ (pos x)) (div-mul_cancel d h))

pub divided_is_whole : (scale : ℕ) (time : Frac) → 0 < scale → 0 < time.d → time.d ∣ unsigned_abs time.n * scale → IsWhole scale time
divided_is_whole scale time some some_d h =
    let q = quotient_is scale time.d time.n h in
    (q.0, record { positive = some; other_positive = some_d; crosswise = q.1 })

-- ---- the ticks

rest_is_none : (ticks : ℤ) (d : ℕ) → d ∣ unsigned_abs ticks → int_rem ticks (pos d) ≡ pos 0
rest_is_none (pos n) d h = ap pos (mod-eq-zero_of_dvd d h)
rest_is_none (negsuc n) d h = ap (λ (x : ℕ). neg_ℤ (pos x)) (mod-eq-zero_of_dvd d h)

-- where there is a rest, the time isn't whole
pub rest_is_refused : (scale : ℕ) (time : Frac) → (int_rem (time.n *ℤ pos scale) (pos time.d) ≡ pos 0 → ⊥) → IsWhole scale time → ⊥
rest_is_refused scale time some whole =
    some (rest_is_none (time.n *ℤ pos scale) time.d (subst (λ (x : ℕ). time.d ∣ x) (sym (unsigned_abs-mul time.n (pos scale))) (whole_is_divided scale time whole)))

-- where there is none, the quotient is the ticks
pub quotient_is_same : (scale : ℕ) (time : Frac) → 0 < scale → 0 < time.d → int_rem (time.n *ℤ pos scale) (pos time.d) ≡ pos 0 → IsSameTime (in_ticks (int_div (time.n *ℤ pos scale) (pos time.d)) scale) time
quotient_is_same scale time some some_d e =
    let whole = quot-rem (time.n *ℤ pos scale) (pos time.d) in
    record { positive = some; other_positive = some_d; crosswise = omega (arith, ints) }

-- ---- the least multiple in which a time is whole

times_some : (a b : ℕ) → 0 < a → 0 < b → 0 < a * b
times_some a b p q = grind arith

pub least_from_common : (scale : ℕ) (time : Frac) (g : ℕ) → 0 < scale → 0 < time.d → IsGreatestCommon (time.d ∷ (unsigned_abs time.n % time.d) * scale ∷ []) g → IsLeastWhole scale time (scale * (time.d / g))
least_from_common scale time g some some_d h = record {
  some = times_some scale (d / g) some part_some;
  multiple = dvd-mul_right scale (d / g);
  whole = divided_is_whole (scale * (d / g)) time (times_some scale (d / g) some part_some) some_d (divides_whole n d (scale * (d / g)) (subst (λ (x : ℕ). d ∣ x) (mul_assoc (n % d) scale (d / g)) of_rest) (dvd-mul_right d (scale * (d / g))));
  divides = λ other p q.
      let t : ℕ = other / scale in
      let is : scale * t ≡ other = mul-div_cancel' scale p in
      let rest : d ∣ (n % d) * other = divides_rest n d other d (whole_is_divided other time q) (dvd-mul_right d other) in
      let split : d ∣ ((n % d) * scale) * t = subst (λ (x : ℕ). d ∣ x) (ap (λ (x : ℕ). n % d * x) (sym is) ∙ sym (mul_assoc (n % d) scale t)) rest in
      let scaled : d ∣ g * t = h.divided t d (dvd-mul_right d t, (split, tt)) in
      let turned : (d / g) * g ∣ t * g = subst (λ (x : ℕ). (d / g) * g ∣ x) (mul_comm g t) (subst (λ (x : ℕ). x ∣ g * t) (sym (div-mul_cancel g h.divides.0)) scaled) in
      subst (λ (x : ℕ). scale * (d / g) ∣ x) is (mul-dvd-mul_left (d / g) scale (dvd_of_mul-dvd-mul_right (d / g) some_g turned));
}
  where
    n : ℕ
    n = unsigned_abs time.n

    d : ℕ
    d = time.d

    some_g : 0 < g
    some_g = pos_of_dvd_of_pos h.divides.0 some_d

    part_some : 0 < d / g
    part_some = pos_of_dvd_of_pos (subst (λ (x : ℕ). d / g ∣ x) (div-mul_cancel g h.divides.0) (dvd-mul_right (d / g) g)) some_d

    of_rest : d ∣ ((n % d) * scale) * (d / g)
    of_rest = subst (λ (x : ℕ). x ∣ ((n % d) * scale) * (d / g)) (mul-div_cancel' g h.divides.0) (mul-dvd-mul_right g h.divides.1.0 (d / g))

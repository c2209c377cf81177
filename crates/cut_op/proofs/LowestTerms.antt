-- A time in lowest terms is whole in no scale below its parts of a second.
use Rattle.std.proofs.Common.{◌≡◌, ℕ, ◌+◌, ◌-◌, ◌*◌, ◌/◌, ◌%◌, ◌^◌, ◌<◌, ◌≤◌, ◌*ℤ◌, List, [], ◌∷◌, refl, sym, ap, subst, ◌∙◌, arith, inl, inr}
use Rattle.std.specs.Int.{◌∣◌}
use Rattle.std.proofs.Math.Nat.{add-mul, div-add-mod', div-mul_cancel, dvd-add, dvd-mul_left_of_dvd, dvd-mul_right, dvd-sub, dvd_of_mul-dvd-mul_right, le_of_dvd, mul_assoc, mul_comm, pos_of_dvd_of_pos}
use Rattle.std.proofs.lemmas.Bool.{cases_lt}
use Rattle.mp_frac.specs.Divisors.{IsGreatestCommon}

lt-times : (a b k : ℕ) → 0 < k → a < b → a * k < b * k
lt-times a b k some lt = grind arith

-- a divisor of a number and of a rest by it
module _ (n d g : ℕ) (some : 0 < d) (common : IsGreatestCommon (d ∷ n % d ∷ []) g) where
  divides_both : g ∣ n
  divides_both = subst (λ (x : ℕ). g ∣ x) (div-add-mod' n d) (dvd-add g (dvd-mul_left_of_dvd g common.divides.0 (n / d)) common.divides.1.0)

  pub some_common : 0 < g
  some_common = pos_of_dvd_of_pos common.divides.0 some

  -- the same time
  pub lowest_same : n / g * d ≡ n * (d / g)
  lowest_same = same (n / g) (d / g) (div-mul_cancel g divides_both) (div-mul_cancel g common.divides.0)
    where
      same : (a b : ℕ) → a * g ≡ n → b * g ≡ d → a * d ≡ n * b
      same a b p q = ap (λ (x : ℕ). a * x) (sym q) ∙ (turn a b g ∙ ap (λ (x : ℕ). x * b) p)
        where
          turn : (a b g : ℕ) → a * (b * g) ≡ a * g * b
          turn a b g = omega arith

  pub some_lowest : 0 < d / g
  some_lowest = pos_of_dvd_of_pos (subst (λ (x : ℕ). d / g ∣ x) (div-mul_cancel g common.divides.0) (dvd-mul_right (d / g) g)) some

  rest_divides : (m : ℕ) → d ∣ n * m → d ∣ (n % d) * m
  rest_divides m h =
      let whole : n * m ≡ (n / d) * (d * m) + (n % d) * m = ap (λ (x : ℕ). x * m) (sym (div-add-mod' n d)) ∙ (add-mul (n / d * d) (n % d) m ∙ ap (λ (x : ℕ). x + n % d * m) (mul_assoc (n / d) d m)) in
      let part : d ∣ (n / d) * (d * m) = dvd-mul_left_of_dvd d (dvd-mul_right d m) (n / d) in
      let left : ((n / d) * (d * m) + (n % d) * m) - (n / d) * (d * m) ≡ (n % d) * m = omega arith in
      subst (λ (x : ℕ). d ∣ x) left (dvd-sub d (subst (λ (x : ℕ). d ∣ x) whole h) part)

  -- a scale in which it is whole has all its parts
  pub lowest_least : (m : ℕ) → 0 < m → d ∣ n * m → d / g ≤ m
  lowest_least m some_m h =
      let scaled : d ∣ g * m = common.divided m d (dvd-mul_right d m, (rest_divides m h, tt)) in
      let turned : (d / g) * g ∣ m * g = subst (λ (x : ℕ). (d / g) * g ∣ x) (mul_comm g m) (subst (λ (x : ℕ). x ∣ g * m) (sym (div-mul_cancel g common.divides.0)) scaled) in
      le_of_dvd some_m (dvd_of_mul-dvd-mul_right (d / g) some_common turned)

  -- it is as small as its seconds
  pub lowest_short : (seconds : ℕ) → n ≤ seconds * d → n / g ≤ seconds * (d / g)
  lowest_short seconds le = elim (cases_lt (seconds * (d / g)) (n / g)) [
    | inr ge ↦ ge
    | inl lt ↦
        let more : seconds * (d / g) * g < n / g * g = lt-times (seconds * (d / g)) (n / g) g some_common lt in
        let left : seconds * (d / g) * g ≡ seconds * d = mul_assoc seconds (d / g) g ∙ ap (λ (x : ℕ). seconds * x) (div-mul_cancel g common.divides.0) in
        absurd (omega (arith, more, left, div-mul_cancel g divides_both, le))
  ]

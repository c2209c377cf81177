-- The least multiple of a scale in which numbers of parts are whole.
use Rattle.std.proofs.Common.{◌≡◌, ℕ, ◌*◌, ◌/◌, ◌<◌, ◌≤◌, Bool, true, false, cond, leb, List, [], ◌∷◌, Option, Some, None, pos, refl, sym, ap, subst, ◌∙◌, arith}
use Rattle.std.specs.Int.{◌∣◌}
use Rattle.std.specs.List.{AllByRecursion}
use Rattle.std.proofs.Math.Nat.{dvd-mul_right, dvd_refl, div-mul_cancel, mul-div_cancel', dvd_of_mul-dvd-mul_right, mul-dvd-mul_left, mul-dvd-mul_right, mul_comm, mul_assoc, pos_of_dvd_of_pos, le_of_dvd}
use Rattle.std.proofs.lemmas.Bool.{leb-true, leb-false}
use Rattle.std.proofs.lemmas.Option.{same_Some, none-some}
use Rattle.mp_frac.specs.declared.time.Frac.{Frac}
use Rattle.mp_frac.specs.Time.{IsWhole, in_ticks}
use Rattle.mp_frac.specs.Law.{WholenessIsDivision}
use Rattle.mp_frac.specs.Divisors.{IsGreatestCommon, most, up_to}
use Rattle.mp_timeline.specs.Same.{IsSameTicks}
use Rattle.mp_movie.specs.Settling.{IsLeastServing, Settles}
use Rattle.mp_clip.specs.Clipped.{as_times}
use Rattle.mp_clip.proofs.Measures.{times_each}

times_some : (a b : ℕ) → 0 < a → 0 < b → 0 < a * b
times_some a b p q = grind arith

pub common_itself : (a : ℕ) → IsGreatestCommon (a ∷ []) a
common_itself a = record { divides = (dvd_refl a, tt); divided = λ factor divisor all. all.0 }

pub up_to_is : (limit number found : ℕ) → up_to limit number ≡ Some found → found ≡ number
up_to_is limit number found e = by (leb number limit) e
  where
    by : (small : Bool) → cond small (Some number) None ≡ Some found → found ≡ number
    by true e = sym (same_Some number found e)
    by false e = absurd (none-some found e)

-- a tick of the scale has so many parts, and a part so many of the unit
module _ (whole : WholenessIsDivision) (scale parts c : ℕ) (some_scale : 0 < scale) (some_parts : 0 < parts) (some_c : 0 < c) where
  abbrev pub unit : ℕ
  unit = parts * scale * c

  some_unit : 0 < unit
  some_unit = times_some (parts * scale) c (times_some parts scale some_parts some_scale) some_c

  unit_divides : (n k : ℕ) → parts ∣ n * k → unit ∣ n * c * (scale * k)
  unit_divides n k h = subst (λ (x : ℕ). x ∣ n * c * (scale * k)) (sym (mul_assoc parts scale c)) (subst (λ (x : ℕ). parts * (scale * c) ∣ x) (turn n k) (mul-dvd-mul_right parts h (scale * c)))
    where
      turn : (n k : ℕ) → n * k * (scale * c) ≡ n * c * (scale * k)
      turn n k = omega arith

  parts_divide : (n k : ℕ) → unit ∣ n * c * (scale * k) → parts ∣ n * k
  parts_divide n k h = dvd_of_mul-dvd-mul_right parts (times_some scale c some_scale some_c) (subst (λ (x : ℕ). parts * (scale * c) ∣ x) (turn n k) (subst (λ (x : ℕ). x ∣ n * c * (scale * k)) (mul_assoc parts scale c) h))
    where
      turn : (n k : ℕ) → n * c * (scale * k) ≡ n * k * (scale * c)
      turn n k = omega arith

  module _ (numbers : List ℕ) (g : ℕ) (common : IsGreatestCommon (parts ∷ numbers) g) where
    some_g : 0 < g
    some_g = pos_of_dvd_of_pos common.divides.0 some_parts

    some_rest : 0 < parts / g
    some_rest = pos_of_dvd_of_pos (subst (λ (x : ℕ). parts / g ∣ x) (div-mul_cancel g common.divides.0) (dvd-mul_right (parts / g) g)) some_parts

    pub some_least : 0 < scale * (parts / g)
    some_least = times_some scale (parts / g) some_scale some_rest

    all_whole : (ns : List ℕ) → AllByRecursion (λ number. g ∣ number) ns → AllByRecursion (IsWhole (scale * (parts / g))) (as_times unit (times_each c ns))
    all_whole [] all = tt
    all_whole (n ∷ ns) all = (
      (whole (scale * (parts / g)) (in_ticks (pos (n * c)) unit) some_least some_unit).1
          (unit_divides n (parts / g) (subst (λ (x : ℕ). x ∣ n * (parts / g)) (mul-div_cancel' g common.divides.0) (mul-dvd-mul_right g all.0 (parts / g)))),
      all_whole ns all.1,
    )

    all_divided : (other t : ℕ) → other ≡ scale * t → (ns : List ℕ) → AllByRecursion (IsWhole other) (as_times unit (times_each c ns)) → AllByRecursion (λ number. parts ∣ number * t) ns
    all_divided other t is [] all = tt
    all_divided other t is (n ∷ ns) all = (
      parts_divide n t (subst (λ (x : ℕ). unit ∣ n * c * x) is ((whole other (in_ticks (pos (n * c)) unit) all.0.1.positive some_unit).0 all.0)),
      all_divided other t is ns all.1,
    )

    pub is_least : IsLeastServing scale (as_times unit (times_each c numbers)) (scale * (parts / g))
    is_least = record {
      some = some_least;
      serves = record { multiple = dvd-mul_right scale (parts / g); whole = all_whole numbers common.divides.1 };
      divides = λ other serves.
          let t : ℕ = other / scale in
          let is : scale * t ≡ other = mul-div_cancel' scale serves.multiple in
          let all = all_divided other t (sym is) numbers serves.whole in
          let scaled : parts ∣ g * t = common.divided t parts (dvd-mul_right parts t, all) in
          let turned : (parts / g) * g ∣ t * g = subst (λ (x : ℕ). (parts / g) * g ∣ x) (mul_comm g t) (subst (λ (x : ℕ). x ∣ g * t) (sym (div-mul_cancel g common.divides.0)) scaled) in
          subst (λ (x : ℕ). scale * (parts / g) ∣ x) is (mul-dvd-mul_left (parts / g) scale (dvd_of_mul-dvd-mul_right (parts / g) some_g turned));
    }

    pub settles_some : (found : ℕ) → up_to most (scale * (parts / g)) ≡ Some found → Settles scale (as_times unit (times_each c numbers)) (Some found)
    settles_some found e = by (leb (scale * (parts / g)) most) refl e
      where
        by : (small : Bool) → leb (scale * (parts / g)) most ≡ small → cond small (Some (scale * (parts / g))) None ≡ Some found → Settles scale (as_times unit (times_each c numbers)) (Some found)
        by true le e =
            let is = same_Some (scale * (parts / g)) found e in
            (subst (λ (x : ℕ). IsLeastServing scale (as_times unit (times_each c numbers)) x) is is_least, subst (λ (x : ℕ). x ≤ most) is (leb-true (scale * (parts / g)) most le))
        by false le e = absurd (none-some found e)

    pub settles_none : up_to most (scale * (parts / g)) ≡ None → Settles scale (as_times unit (times_each c numbers)) None
    settles_none e = by (leb (scale * (parts / g)) most) refl e
      where
        by : (small : Bool) → leb (scale * (parts / g)) most ≡ small → cond small (Some (scale * (parts / g))) None ≡ None → Settles scale (as_times unit (times_each c numbers)) None
        by true le e = absurd (none-some (scale * (parts / g)) (sym e))
        by false le e = λ other some serves.
            let above = leb-false (scale * (parts / g)) most le in
            let small = le_of_dvd some (is_least.divides other serves) in
            omega (arith, above, small)

    -- the ticks of that scale
    pub ticks_are : (n : ℕ) → g ∣ n → IsSameTicks unit (scale * (parts / g)) (pos (n * c)) (pos (n / g))
    ticks_are n h = record { positive = some_unit; other_positive = some_least; crosswise = ap pos (product n (n / g) (parts / g) (sym (div-mul_cancel g h)) (sym (div-mul_cancel g common.divides.0))) }
      where
        product : (n q r : ℕ) → n ≡ q * g → parts ≡ r * g → n * c * (scale * r) ≡ q * (parts * scale * c)
        product n q r n_is parts_is = ap (λ (x : ℕ). x * c * (scale * r)) n_is ∙ (turn q r ∙ ap (λ (x : ℕ). q * (x * scale * c)) (sym parts_is))
          where
            turn : (q r : ℕ) → q * g * c * (scale * r) ≡ q * (r * g * scale * c)
            turn q r = omega arith

-- the same for numbers of parts, where a part is the unit
pub divisors_settle : WholenessIsDivision → (scale parts g : ℕ) (numbers : List ℕ) → 0 < scale → 0 < parts → IsGreatestCommon (parts ∷ numbers) g
    → Settles scale (as_times (scale * parts) numbers) (up_to most (scale * (parts / g)))
divisors_settle whole scale parts g numbers some_scale some_parts common =
    subst (λ (times : List Frac). Settles scale times (up_to most (scale * (parts / g)))) (same numbers) (by (up_to most (scale * (parts / g))) refl)
  where
    by : (found : Option ℕ) → up_to most (scale * (parts / g)) ≡ found → Settles scale (as_times (parts * scale * 1) (times_each 1 numbers)) found
    by None e = settles_none whole scale parts 1 some_scale some_parts (omega arith) numbers g common e
    by (Some found) e = settles_some whole scale parts 1 some_scale some_parts (omega arith) numbers g common found e

    same : (ns : List ℕ) → as_times (parts * scale * 1) (times_each 1 ns) ≡ as_times (scale * parts) ns
    same [] = refl
    same (n ∷ ns) =
        let unit : parts * scale * 1 ≡ scale * parts = omega arith in
        let one : n * 1 ≡ n = omega arith in
        ap (λ (times : List Frac). in_ticks (pos (n * 1)) (parts * scale * 1) ∷ times) (same ns)
        ∙ (ap (λ (x : ℕ). in_ticks (pos (n * 1)) x ∷ as_times (scale * parts) ns) unit ∙ ap (λ (x : ℕ). in_ticks (pos x) (scale * parts) ∷ as_times (scale * parts) ns) one)

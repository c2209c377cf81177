-- The least multiple of a scale that serves is the first one that does.
use Rattle.std.proofs.Common.{◌≡◌, ℕ, zero, suc, ◌+◌, ◌*◌, ◌/◌, ◌<◌, ◌≤◌, ◌&&◌, Bool, true, false, List, [], ◌∷◌, map, Option, Some, None, refl, sym, ap, ◌∙◌, subst, arith, inl, inr}
use Rattle.std.specs.List.{AllByRecursion, find, list_all, range_with_len}
use Rattle.std.proofs.Math.Nat.{mul-div_cancel', mul-lt-mul_of_pos_left, mul-le-mul_left, mul-pos, mul-div-le, dvd-mul_right}
use Rattle.std.proofs.lemmas.Nat.{le-div}
use Rattle.std.proofs.lemmas.Nat.Gcd.{dvd_of_mod-eq-zero, le_of_dvd, mod-eq-zero_of_dvd}
use Rattle.std.proofs.lemmas.Bool.{cases_Bool, cases_eq, eq-eqb, eqb-true}
use Rattle.mp_frac.specs.declared.time.Frac.{Frac}
use Rattle.mp_frac.specs.Divisors.{most}
use Rattle.mp_frac.specs.Law.{WholenessIsDivision}
use Rattle.mp_frac.specs.Time.{IsWhole}
use Rattle.mp_movie.specs.Settling.{Serves, Settles}
use Rattle.track_ops.specs.Scales.{is_whole, settled}

find_first : {X : Type 0} (p : X → Bool) (f : ℕ → X) (a n k : ℕ) → a ≤ k → k < a + n → p (f k) ≡ true → ((j : ℕ) → a ≤ j → j < k → p (f j) ≡ false)
    → find p (map f (range_with_len a n)) ≡ Some (f k)
find_first p f a zero k low high is none = absurd (omega (arith, low, high))
find_first p f a (suc n) k low high is none =
    elim (cases_eq a k) [
      | inl same ↦ rw (ap (λ (x : ℕ). p (f x)) same ∙ is) (ap (λ (x : ℕ). Some (f x)) same)
      | inr other ↦ rw (none a (omega arith) (omega (arith, low, other))) (find_first p f (a + 1) n k (omega (arith, low, other)) (omega (arith, high)) is (λ j le lt. none j (omega (arith, le)) lt))
    ]

find_none : {X : Type 0} (p : X → Bool) (f : ℕ → X) (a n : ℕ) → ((j : ℕ) → a ≤ j → j < a + n → p (f j) ≡ false) → find p (map f (range_with_len a n)) ≡ None
find_none p f a zero none = refl
find_none p f a (suc n) none = rw (none a (omega arith) (omega arith)) (find_none p f (a + 1) n (λ j le lt. none j (omega (arith, le)) (omega (arith, lt))))

pub both : (a b : Bool) → (a && b) ≡ true → (a ≡ true) × (b ≡ true)
both true b all = (refl, all)
both false b all = cc

-- a time is whole by the test exactly where it is whole
tested : WholenessIsDivision → (scale : ℕ) (time : Frac) → 0 < scale → 0 < time.d → IsWhole scale time → is_whole scale time ≡ true
tested law scale time some some_d whole = eq-eqb _ 0 (mod-eq-zero_of_dvd time.d ((law scale time some some_d).0 whole))

by_test : WholenessIsDivision → (scale : ℕ) (time : Frac) → 0 < scale → 0 < time.d → is_whole scale time ≡ true → IsWhole scale time
by_test law scale time some some_d test = (law scale time some some_d).1 (dvd_of_mod-eq-zero time.d (eqb-true _ 0 test))

abbrev pub AreTimes : List Frac → Type 0
AreTimes times = AllByRecursion (λ time. 0 < time.d) times

all_tested : WholenessIsDivision → (scale : ℕ) (times : List Frac) → 0 < scale → AreTimes times → AllByRecursion (IsWhole scale) times → list_all (is_whole scale) times ≡ true
all_tested law scale [] some are whole = refl
all_tested law scale (time ∷ times) some are whole = rw (tested law scale time some are.0 whole.0) (all_tested law scale times some are.1 whole.1)

all_by_test : WholenessIsDivision → (scale : ℕ) (times : List Frac) → 0 < scale → AreTimes times → list_all (is_whole scale) times ≡ true → AllByRecursion (IsWhole scale) times
all_by_test law scale [] some are test = tt
all_by_test law scale (time ∷ times) some are test =
    let each = both (is_whole scale time) (list_all (is_whole scale) times) test in
    (by_test law scale time some are.0 each.0, all_by_test law scale times some are.1 each.1)

-- a multiple below the least one doesn't serve
less_fails : WholenessIsDivision → (scale factor least : ℕ) (times : List Frac) → 0 < scale → 1 ≤ factor → AreTimes times → ((other : ℕ) → 0 < other → Serves scale times other → least ≤ other) → scale * factor < least
    → list_all (is_whole (scale * factor)) times ≡ false
less_fails law scale factor least times some once are lower less =
    elim (cases_Bool (list_all (is_whole (scale * factor)) times)) [
      | inl test ↦
          let positive : 0 < scale * factor = mul-pos some once in
          absurd (omega (arith, less, lower (scale * factor) positive (record { multiple = dvd-mul_right scale factor; whole = all_by_test law (scale * factor) times positive are test })))
      | inr fails ↦ fails
    ]

pub settles : WholenessIsDivision → (scale : ℕ) (times : List Frac) (result : Option ℕ) → 0 < scale → AreTimes times → Settles scale times result → settled scale times ≡ result
settles law scale times None some are above =
    find_none (λ multiple. list_all (is_whole multiple) times) (λ factor. scale * factor) 1 (most / scale)
    (λ j low high.
    let within = mul-le-mul_left scale (short j high) in
    let limit = mul-div-le most scale in
    less_fails law scale j (most + 1) times some low are (λ other positive serves. above other positive serves) (omega (arith, within, limit)))
  where
    short : (j : ℕ) → j < 1 + most / scale → j ≤ most / scale
    short j high = omega (arith, high)
settles law scale times (Some least) some are (is, within) =
    subst (λ (x : ℕ). settled scale times ≡ Some x) whole
    (find_first (λ multiple. list_all (is_whole multiple) times) (λ factor. scale * factor) 1 (most / scale) (least / scale)
    once few
    (subst (λ (x : ℕ). list_all (is_whole x) times ≡ true) (sym whole) (all_tested law least times is.some are is.serves.whole))
    (λ j low high. less_fails law scale j least times some low are (λ other positive serves. le_of_dvd positive (is.divides other serves)) (subst (λ (x : ℕ). scale * j < x) whole (mul-lt-mul_of_pos_left high some))))
  where
    whole : scale * (least / scale) ≡ least
    whole = mul-div_cancel' scale is.serves.multiple

    once : 1 ≤ least / scale
    once = let le = le_of_dvd is.some is.serves.multiple in le-div 1 least scale some (omega (arith, le))

    few : least / scale < 1 + most / scale
    few = omega (arith, le-div (least / scale) most scale some (omega (arith, within, whole)))

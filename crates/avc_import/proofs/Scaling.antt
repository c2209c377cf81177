-- The least multiple of a scale in which a duration is whole is the first that is tried.
use Rattle.std.proofs.Common.{◌≡◌, ◌≢◌, ℕ, zero, suc, pos, ◌+◌, ◌*◌, ◌/◌, ◌%◌, ◌<◌, ◌≤◌, ◌==◌, nat_le, Bool, true, false, Option, Some, None, refl, sym, ap, ◌∙◌, arith, eqb-true}
use Rattle.std.specs.Prelude.{if◌then◌else◌}
use Rattle.std.specs.Int.{◌∣◌}
use Rattle.std.proofs.Math.Nat.{dvd_iff_mod-eq-zero, div-le_of_le-mul, div-mul_cancel, mul-le-mul_left, le_of_mul-le-mul_left, dvd-mul_left_of_dvd, dvd-mul_right_of_dvd}
use Rattle.std.proofs.lemmas.Nat.Gcd.{le_of_dvd, dvd_refl}
use Rattle.std.proofs.lemmas.Bool.{leb-true, leb-false, le-leb, lt-leb}
use Rattle.mp_frac.specs.declared.time.Frac.{Frac}
use Rattle.mp_frac.specs.Divisors.{LimitedBy, most, up_to}
use Rattle.mp_frac.specs.Law.{WholenessIsDivision}
use Rattle.mp_frac.specs.Time.{IsLeastWhole, IsWhole}
use Rattle.avc_import.specs.declared.schedule.Duration.{Duration}
use Rattle.mp_movie.specs.Placed.{plain_scale}
use Rattle.avc_import.specs.Film.{scheduled}
use Rattle.avc_import.specs.Times.{first_whole, least_whole, ticks_in, together}

abbrev test : ℕ → Duration → ℕ → Bool
test scale time k = time.n * (scale * k) % time.d == 0

-- the first number that passes the test is found, where it is among those that are tried
first_is : (scale more : ℕ) (time : Duration) (k found : ℕ) → k ≤ found → found ≤ k + more → ((j : ℕ) → k ≤ j → j < found → test scale time j ≡ false) → test scale time found ≡ true
    → first_whole scale more time k ≡ found
first_is scale zero time k found low high none is = omega (arith, low, high)
first_is scale (suc more) time k found low high none is =
    by_test (test scale time k) refl (λ next. first_is scale more time (k + 1) found next (omega (arith, high)) (λ j from before. none j (omega (arith, from)) before) is)
  where
    by_test : (b : Bool) → test scale time k ≡ b → (k + 1 ≤ found → first_whole scale more time (k + 1) ≡ found) → (if b then k else first_whole scale more time (k + 1)) ≡ found
    by_test true now later = by_place (nat_le found k) refl
      where
        by_place : (b : Bool) → nat_le found k ≡ b → k ≡ found
        by_place true is = let least = leb-true found k is in omega (arith, least, low)
        by_place false is = absurd (let less = leb-false found k is in let fails = none k (omega arith) less in cc)
    by_test false now later = later (omega (arith, low, not_here))
      where
        not_here : k ≢ found
        not_here same = absurd (let passes = ap (test scale time) same ∙ is in cc)

pub least_is : (scale least : ℕ) (time : Duration) → WholenessIsDivision → 0 < scale → 0 < time.d → IsLeastWhole scale (record { n = pos time.n; d = time.d }) least → least ≡ least_whole scale time
unfolding least_whole
least_is scale least time law some whole is =
    let k = least / scale in
    let multiple : k * scale ≡ least = div-mul_cancel scale is.multiple in
    let divides = (law least part is.some whole).0 is.whole in
    let passes : test scale time k ≡ true = passed k (rw (← multiple) at divides) in
    sym (ap (λ (n : ℕ). scale * n) (first_is scale time.d time 1 k (at_least k multiple) (at_most k multiple) (none_before k multiple) passes) ∙ commuted k scale ∙ multiple)
  where
    part : Frac
    part = record { n = pos time.n; d = time.d }

    commuted : (a b : ℕ) → b * a ≡ a * b
    commuted a b = omega arith

    passed : (k : ℕ) → time.d ∣ time.n * (k * scale) → test scale time k ≡ true
    passed k divides =
        let zero_is : time.n * (k * scale) % time.d ≡ 0 = (dvd_iff_mod-eq-zero time.d).0 divides in
        rw (commuted k scale, zero_is) refl

    positive_product : (a b : ℕ) → 0 < a → 0 < b → 0 < a * b
    positive_product a b one two = grind arith

    is_whole : (k : ℕ) → 0 < k → test scale time k ≡ true → IsWhole (scale * k) part
    is_whole k positive is =
        let zero_is = eqb-true (time.n * (scale * k) % time.d) 0 is in
        (law (scale * k) part (positive_product scale k some positive) whole).1 ((dvd_iff_mod-eq-zero time.d).1 zero_is)

    least_below : (k j : ℕ) → k * scale ≡ least → 0 < j → test scale time j ≡ true → k ≤ j
    least_below k j multiple positive is_one =
        let divides = is.divides (scale * j) (dvd-mul_right_of_dvd scale (dvd_refl scale) j) (is_whole j positive is_one) in
        let le : least ≤ scale * j = le_of_dvd (positive_product scale j some positive) divides in
        le_of_mul-le-mul_left (rw (← multiple, commuted scale k) at le) some

    at_least : (k : ℕ) → k * scale ≡ least → 1 ≤ k
    at_least zero multiple = absurd (let positive = is.some in omega (arith, multiple, positive))
    at_least (suc k) multiple = omega arith

    at_most : (k : ℕ) → k * scale ≡ least → k ≤ 1 + time.d
    at_most k multiple =
        let last : test scale time time.d ≡ true = passed time.d (dvd-mul_left_of_dvd time.d (dvd-mul_right_of_dvd time.d (dvd_refl time.d) scale) time.n) in
        let le = least_below k time.d multiple whole last in
        omega (arith, le)

    none_before : (k : ℕ) → k * scale ≡ least → (j : ℕ) → 1 ≤ j → j < k → test scale time j ≡ false
    none_before k multiple j from before = by_test (test scale time j) refl
      where
        by_test : (b : Bool) → test scale time j ≡ b → test scale time j ≡ false
        by_test false is = is
        by_test true is = absurd (let le = least_below k j multiple (omega (arith, from)) is in omega (arith, le, before))

pub limited : (scale : ℕ) (time : Duration) (found : Option ℕ) → WholenessIsDivision → 0 < scale → 0 < time.d → LimitedBy most (IsLeastWhole scale (record { n = pos time.n; d = time.d })) found
    → found ≡ up_to most (least_whole scale time)
limited scale time (Some least) law some whole (is, few) = rw (← least_is scale least time law some whole is) (sym (within few))
  where
    within : least ≤ most → up_to most least ≡ Some least
    within few = rw (le-leb least most few) refl
limited scale time None law some whole (least, is, many) = rw (← least_is scale least time law some whole is) (sym (above many))
  where
    above : most < least → up_to most least ≡ None
    above many = rw (lt-leb least most many) refl

first_low : (scale more : ℕ) (time : Duration) (k found : ℕ) → k ≤ found → found ≤ k + more → test scale time found ≡ true → first_whole scale more time k ≤ found
first_low scale zero time k found low high is = low
first_low scale (suc more) time k found low high is = by_test (test scale time k) refl (λ next. first_low scale more time (k + 1) found next (omega (arith, high)) is)
  where
    by_test : (b : Bool) → test scale time k ≡ b → (k + 1 ≤ found → first_whole scale more time (k + 1) ≤ found) → (if b then k else first_whole scale more time (k + 1)) ≤ found
    by_test true now later = low
    by_test false now later = later (omega (arith, low, not_here))
      where
        not_here : k ≢ found
        not_here same = absurd (let passes = ap (test scale time) same ∙ is in cc)

-- a duration is whole in the scale of its ticks
pub whole_few : (time : Duration) → 0 < time.d → least_whole 1 time ≤ time.d
unfolding least_whole
whole_few time whole =
    let once : 1 * time.d ≡ time.d = omega arith in
    let zero_is : time.n * (1 * time.d) % time.d ≡ 0 = rw once ((dvd_iff_mod-eq-zero time.d).0 (dvd-mul_left_of_dvd time.d (dvd_refl time.d) time.n)) in
    let low = first_low 1 time.d time 1 time.d whole (omega arith) (rw zero_is refl) in
    omega (arith, low)

-- so it has such a scale
pub found_scale : (time : Duration) (found : Option ℕ) → 0 < time.d → time.d ≤ most → found ≡ up_to most (least_whole 1 time) → found ≡ Some (least_whole 1 time)
found_scale time found whole few is = is ∙ rw (le-leb (least_whole 1 time) most (omega (arith, whole_few time whole, few))) refl

-- ---- no scale is 0

first_least : (scale more : ℕ) (time : Duration) (k : ℕ) → k ≤ first_whole scale more time k
first_least scale zero time k = omega arith
first_least scale (suc more) time k = by_test (test scale time k) (first_least scale more time (k + 1))
  where
    by_test : (b : Bool) → k + 1 ≤ first_whole scale more time (k + 1) → k ≤ (if b then k else first_whole scale more time (k + 1))
    by_test true later = omega arith
    by_test false later = omega (arith, later)

least_some : (scale : ℕ) (time : Duration) → 0 < scale → 0 < least_whole scale time
unfolding least_whole
least_some scale time some = product scale (first_whole scale time.d time 1) some (first_least scale time.d time 1)
  where
    product : (a b : ℕ) → 0 < a → 1 ≤ b → 0 < a * b
    product a b one two = grind arith

pub scale_some : (time : Duration) (pictures delay : ℕ) → 0 < (scheduled time pictures delay).scale
scale_some time pictures delay = least_some 1 time (omega arith)

pub movie_scale_some : (time : Duration) (pictures delay : ℕ) → 0 < (scheduled time pictures delay).movie_scale
movie_scale_some time pictures delay = by_delay (delay == 0)
  where
    by_delay : (b : Bool) → 0 < (if b then plain_scale else least_whole plain_scale (together pictures time))
    by_delay true = omega arith
    by_delay false = least_some plain_scale (together pictures time) (omega arith)

-- a picture lasts at most as many ticks as its duration has parts
pub ticks_few : (time : Duration) → 0 < time.d → ticks_in (least_whole 1 time) time ≤ time.n
ticks_few time whole =
    let few = mul-le-mul_left time.n (whole_few time whole) in
    div-le_of_le-mul time.d (omega (arith, few))

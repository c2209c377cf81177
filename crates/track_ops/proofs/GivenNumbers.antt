-- The numbers that further tracks get are new, in their range, and as many as there are tracks.
use Rattle.std.proofs.Common.{◌≡◌, ◌≢◌, ℕ, ◌+◌, ◌^◌, ◌<◌, ◌≤◌, ◌||◌, ◌==◌, nat_le, Bool, true, false, if◌then◌else◌, List, [], ◌∷◌, ◌++◌, length, Some, None, refl, sym, ap, subst, arith}
use Rattle.std.specs.Prelude.{Ok, Err}
use Rattle.std.specs.List.{AllByRecursion, list_any}
use Rattle.std.proofs.lemmas.Bool.{eq-eqb, le-ltb, leb-false, leb-true, lt-ltb, ltb-false}
use Rattle.std.proofs.lemmas.List.{append-nil, append_assoc}
use Rattle.mp_frac.specs.Divisors.{most, up_to}
use Rattle.mp_ports.specs.declared.code.Code.TheVariants.{IdLimit}
use Rattle.mp_ports.specs.Checks.{bad_at}
use Rattle.mp_movie.specs.Durations.{greatest}
use Rattle.mp_movie.specs.WellFormed.{AreDistinct}
use Rattle.track_ops.specs.Adding.{is_above}
use Rattle.track_ops.specs.Kept.{numbered}
use Rattle.track_ops.specs.Numbers.{is_taken, number_for, numbers_for}

neither : (a b : Bool) → (a || b) ≡ false → (a ≡ false) × (b ≡ false)
neither true b none = (cc, cc)
neither false b none = (refl, none)

untaken : (numbers : List ℕ) (number : ℕ) → is_taken numbers number ≡ false → AllByRecursion (λ other. number ≢ other) numbers
untaken [] number none = tt
untaken (other ∷ numbers) number none =
    let both = neither (other == number) (is_taken numbers number) none in
    ((λ same. differ (other == number) (eq-eqb other number (sym same)) both.0), untaken numbers number both.1)
  where
    differ : (b : Bool) → b ≡ true → b ≡ false → ⊥
    differ true is none = cc
    differ false is none = cc

above_all : (numbers : List ℕ) (k : ℕ) → greatest numbers < k → AllByRecursion (λ other. k ≢ other) numbers
above_all [] k less = tt
above_all (other ∷ numbers) k less = ((λ same. absurd (omega (arith, same, less))), above_all numbers k (omega (arith, less)))

-- the number is none of those that stand
pub is_new : (numbers : List ℕ) (number : ℕ) → AllByRecursion (λ other. number_for numbers number ≢ other) numbers
is_new numbers number = by (is_taken numbers number) refl
  where
    by : (b : Bool) → is_taken numbers number ≡ b → AllByRecursion (λ other. (if b then greatest numbers + 1 else number) ≢ other) numbers
    by true is = above_all numbers (greatest numbers + 1) (omega arith)
    by false none = untaken numbers number none

with_one : (number n : ℕ) (numbers : List ℕ) → number ≢ n → AllByRecursion (λ other. other ≢ n) numbers → AllByRecursion (λ other. other ≢ n) (numbers ++ number ∷ [])
with_one number n [] other all = (other, tt)
with_one number n (m ∷ numbers) other all = (all.0, with_one number n numbers other all.1)

distinct_push : (numbers : List ℕ) (number : ℕ) → AreDistinct numbers → AllByRecursion (λ other. number ≢ other) numbers → AreDistinct (numbers ++ number ∷ [])
distinct_push [] number distinct new = (tt, tt)
distinct_push (n ∷ numbers) number distinct new = (with_one number n numbers new.0 distinct.0, distinct_push numbers number distinct.1 new.1)

pub all_distinct : (numbers others : List ℕ) → AreDistinct numbers → AreDistinct (numbers ++ numbers_for numbers others)
all_distinct numbers [] distinct = subst AreDistinct (sym (append-nil numbers)) distinct
all_distinct numbers (number ∷ others) distinct =
    let given = number_for numbers number in
    subst AreDistinct (append_assoc numbers (given ∷ []) (numbers_for (numbers ++ given ∷ []) others)) (all_distinct (numbers ++ given ∷ []) others (distinct_push numbers given distinct (is_new numbers number)))

pub as_many : (numbers others : List ℕ) → length (numbers_for numbers others) ≡ length others
as_many numbers [] = refl
as_many numbers (number ∷ others) = omega (arith, as_many (numbers ++ number_for numbers number ∷ []) others)

some_for : (numbers : List ℕ) (number : ℕ) → 1 ≤ number → 1 ≤ number_for numbers number
some_for numbers number some = by (is_taken numbers number)
  where
    by : (b : Bool) → 1 ≤ (if b then greatest numbers + 1 else number)
    by true = omega arith
    by false = some

pub all_some : (numbers others : List ℕ) → AllByRecursion (λ number. 1 ≤ number) others → AllByRecursion (λ number. 1 ≤ number) (numbers_for numbers others)
all_some numbers [] some = tt
all_some numbers (number ∷ others) some = (some_for numbers number some.0, all_some (numbers ++ number_for numbers number ∷ []) others some.1)

pub all_below : (numbers : List ℕ) → list_any is_above numbers ≡ false → AllByRecursion (λ number. number < 2 ^ 32) numbers
all_below [] none = tt
all_below (number ∷ numbers) none =
    let both = neither (is_above number) (list_any is_above numbers) none in
    let le = ltb-false most number both.0 in
    (omega (arith, le), all_below numbers both.1)

-- ---- one number more

pub next_given : (numbers rest : List ℕ) (number given : ℕ) → Some given ≡ up_to most (number_for numbers number)
    → numbered numbers (numbers_for numbers (number ∷ rest)) ≡ numbered (numbers ++ given ∷ []) (numbers_for (numbers ++ given ∷ []) rest)
next_given numbers rest number given is = by (number_for numbers number) is
  where
    by : (n : ℕ) → Some given ≡ up_to most n → numbered numbers (n ∷ numbers_for (numbers ++ n ∷ []) rest) ≡ numbered (numbers ++ given ∷ []) (numbers_for (numbers ++ given ∷ []) rest)
    by n fits = at (nat_le n most) refl fits
      where
        at : (b : Bool) → nat_le n most ≡ b → Some given ≡ (if b then Some n else None) → numbered numbers (n ∷ numbers_for (numbers ++ n ∷ []) rest) ≡ numbered (numbers ++ given ∷ []) (numbers_for (numbers ++ given ∷ []) rest)
        at true le some = let same : given ≡ n = cc in rw (same, le-ltb most n (leb-true n most le)) (ends (list_any is_above (numbers_for (numbers ++ n ∷ []) rest)))
          where
            ends : (b : Bool) → (if b then Err (bad_at IdLimit 0) else Ok (numbers ++ n ∷ numbers_for (numbers ++ n ∷ []) rest)) ≡ (if b then Err (bad_at IdLimit 0) else Ok ((numbers ++ n ∷ []) ++ numbers_for (numbers ++ n ∷ []) rest))
            ends true = refl
            ends false = ap (λ (all : List ℕ). Ok all) (sym (append_assoc numbers (n ∷ []) (numbers_for (numbers ++ n ∷ []) rest)))
        at false le some = cc

pub none_given : (numbers rest : List ℕ) (number : ℕ) → None ≡ up_to most (number_for numbers number) → numbered numbers (numbers_for numbers (number ∷ rest)) ≡ Err (bad_at IdLimit 0)
none_given numbers rest number is = by (number_for numbers number) is
  where
    by : (n : ℕ) → None ≡ up_to most n → numbered numbers (n ∷ numbers_for (numbers ++ n ∷ []) rest) ≡ Err (bad_at IdLimit 0)
    by n fits = at (nat_le n most) refl fits
      where
        at : (b : Bool) → nat_le n most ≡ b → None ≡ (if b then Some n else None) → numbered numbers (n ∷ numbers_for (numbers ++ n ∷ []) rest) ≡ Err (bad_at IdLimit 0)
        at true le none = cc
        at false above none = rw (lt-ltb most n (leb-false n most above)) refl

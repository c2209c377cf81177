-- A test of all items in ticks of another scale, run by run.
use Rattle.std.proofs.Common.{◌≡◌, ℕ, zero, suc, ◌-◌, ◌<◌, Bool, true, false, ◌&&◌, List, [], ◌∷◌, ◌++◌, length, map, replicate, drop, ℤ, refl, sym, ap, ◌∙◌, arith}
use Rattle.std.specs.List.{list_all}
use Rattle.std.proofs.lemmas.List.{drop_all}
use Rattle.mp_columns.specs.declared.run.Run.{Run}
use Rattle.mp_columns.specs.Runs.{IsLongestRun}

-- over equal items and the rest
copies : (test : ℤ → Bool) (n : ℕ) (x : ℤ) (ys : List ℤ) → list_all test (replicate (suc n) x ++ ys) ≡ (test x && list_all test ys)
copies test zero x ys = refl
copies test (suc n) x ys = ap (λ (b : Bool). test x && b) (copies test n x ys) ∙ by (test x)
  where
    by : (b : Bool) → (b && (b && list_all test ys)) ≡ (b && list_all test ys)
    by true = refl
    by false = refl

counted : (n : ℕ) → 0 < n → n ≡ suc (n - 1)
counted n some = omega arith

one_run : (test : ℤ → Bool) (xs : List ℤ) (from to : ℕ) (run : Run) → IsLongestRun xs from to run → list_all test (drop from xs) ≡ (test run.value && list_all test (drop to xs))
one_run test xs from to run is =
    ap (list_all test) (is.equal ∙ ap (λ (k : ℕ). replicate k run.value ++ drop to xs) (counted run.count is.some)) ∙ copies test (run.count - 1) run.value (drop to xs)

-- the items before this place passed so far, and with those that are left it is all
abbrev pub IsTested : (ℤ → Bool) → List ℤ → ℕ → Bool → Type 0
IsTested test xs place so_far = (so_far && list_all test (drop place xs)) ≡ list_all test xs

and_more : (so_far test rest whole : Bool) → (so_far && (test && rest)) ≡ whole → ((so_far && test) && rest) ≡ whole
and_more true test rest whole e = e
and_more false test rest whole e = e

pub run_is_tested : (test : ℤ → Bool) (xs : List ℤ) (place to : ℕ) (so_far : Bool) (run : Run) → IsTested test xs place so_far → IsLongestRun xs place to run → IsTested test xs to (so_far && test run.value)
run_is_tested test xs place to so_far run tested is =
    and_more so_far (test run.value) _ _ (ap (λ (b : Bool). so_far && b) (sym (one_run test xs place to run is)) ∙ tested)

and_true : (b : Bool) → (b && true) ≡ b
and_true true = refl
and_true false = refl

pub all_is_tested : (test : ℤ → Bool) (xs : List ℤ) (place : ℕ) (so_far : Bool) → place ≡ length xs → IsTested test xs place so_far → so_far ≡ list_all test xs
all_is_tested test xs place so_far end tested =
    sym (ap (λ (b : Bool). so_far && b) (ap (list_all test) (drop_all place xs (omega (arith, end)))) ∙ and_true so_far) ∙ tested

all_mapped : (test : ℤ → Bool) (f : ℤ → ℤ) (xs : List ℤ) → list_all test (map f xs) ≡ list_all (λ x. test (f x)) xs
all_mapped test f [] = refl
all_mapped test f (x ∷ xs) = ap (λ (b : Bool). test (f x) && b) (all_mapped test f xs)

-- at the end the items in ticks of the new scale are tested
pub all_are_tested : (test : ℤ → Bool) (f : ℤ → ℤ) (xs : List ℤ) (place : ℕ) (so_far : Bool) → place ≡ length xs → IsTested (λ x. test (f x)) xs place so_far → so_far ≡ list_all test (map f xs)
all_are_tested test f xs place so_far end tested = all_is_tested (λ x. test (f x)) xs place so_far end tested ∙ sym (all_mapped test f xs)

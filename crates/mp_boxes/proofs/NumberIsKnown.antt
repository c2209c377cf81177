-- A walk knows how many boxes there are, and whether one is short.
use Rattle.std.proofs.Common.{◌≡◌, ℕ, ◌+◌, ◌≤◌, Bool, true, false, List, [], ◌∷◌, length, None, Result, Ok, Err, OnOk, refl, sym, subst, arith, inl, inr}
use Rattle.std.specs.Prelude.{◌==◌, ◌||◌, not}
use Rattle.std.specs.List.{AllByRecursion, list_any}
use Rattle.std.proofs.lemmas.Bool.{cases_eq, false≢true, ltb-false, ne_eqb}
use Rattle.mp_ports.specs.declared.code.Code.TheVariants.{TableLength}
use Rattle.mp_ports.specs.declared.fault.Bad.{Bad}
use Rattle.mp_ports.specs.Checks.{Checks, fault_at, first_code}
use Rattle.mp_boxes.specs.Boxes.{AreLeft, Box, IsContainer, IsCut}
use Rattle.mp_boxes.specs.Counted.{IsCounted, counted_fault, is_shorter, number_fault}

-- so many stand in front of `at`, one of them short or none
pub record Known (base : ℕ) (bytes : List ℕ) (least at found : ℕ) (short : Bool) (all : List Box) : Type 0 where
  pub left : List Box
  pub cut : AreLeft base at bytes left
  pub sum : found + length left ≡ length all
  pub some : (short || list_any (is_shorter least) left) ≡ list_any (is_shorter least) all

pub nothing_known : (base : ℕ) (bytes : List ℕ) (least : ℕ) (all : List Box) → IsCut false base bytes all [] → Known base bytes least 0 0 false all
nothing_known base bytes least all c = record { left = all; cut = subst (λ (k : ℕ). IsCut false k bytes all []) (omega arith) c; sum = omega arith; some = refl }

-- ---- what is said of boxes that have no fault

none_shorter : (least : ℕ) (children : List Box) → list_any (is_shorter least) children ≡ false → AllByRecursion (λ box. least ≤ length box.body) children
none_shorter least [] e = tt
none_shorter least (box ∷ children) e = by (is_shorter least box) refl e (λ q. none_shorter least children q)
  where
    by : (short : Bool) → is_shorter least box ≡ short → (short || list_any (is_shorter least) children) ≡ false → (list_any (is_shorter least) children ≡ false → AllByRecursion (λ other. least ≤ length other.body) children)
        → AllByRecursion (λ other. least ≤ length other.body) (box ∷ children)
    by true k e others = absurd cc
    by false k e others = (ltb-false _ _ k, others e)

passed : (test : Bool) (place : ℕ) → fault_at place (first_code ((test, TableLength) ∷ [])) ≡ None → test ≡ false
passed true place e = absurd cc
passed false place e = refl

neither : (a b : Bool) → (a || b) ≡ false → (a ≡ false) × (b ≡ false)
neither true b e = absurd cc
neither false b e = (refl, e)

same_number : (a b : ℕ) → not (a == b) ≡ false → a ≡ b
same_number a b e = elim (cases_eq a b) [
  | inl q ↦ q
  | inr more ↦ absurd (false≢true (sym (rw (ne_eqb a b more) at e)))
]

counted_is : (count least place base : ℕ) (bytes : List ℕ) → IsContainer base bytes → counted_fault count least place base bytes ≡ None → IsCounted count least base bytes
counted_is count least place base bytes container e =
    let fine : number_fault count least place container.children ≡ None = rw container.read at e in
    let both = neither _ _ (passed _ place fine) in
    record { boxes = container; number = same_number _ _ both.1; long = none_shorter least container.children both.0 }

-- where there is no fault, the boxes are counted
pub counted_if : {A : Type 0} (r : Result A Bad) (count least place base : ℕ) (bytes : List ℕ) → IsContainer base bytes → Checks r (counted_fault count least place base bytes) → OnOk r (IsCounted count least base bytes)
counted_if (Ok value) count least place base bytes container e = counted_is count least place base bytes container e
counted_if (Err bad) count least place base bytes container e = tt

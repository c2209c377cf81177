-- The last run and the last item.
use Rattle.std.proofs.Common.{◌≡◌, ℕ, zero, suc, ◌-◌, ◌<◌, List, [], ◌∷◌, ◌++◌, length, replicate, get_or, Option, Some, None, ℤ, refl, ap, ◌∙◌, arith, rules}
use Rattle.std.specs.Prelude.{IsTrue, IsFalse, nat_eq}
use Rattle.std.specs.List.{last_or}
use Rattle.std.proofs.lemmas.Bool.Decides.{Decides-eqb}
use Rattle.mp_columns.specs.Kept.{AreKept, AreLongest, all_items, items_from}

pub last_is : (before : Option ℤ) (values : List ℤ) (last : ℕ) (d : ℤ) → suc last ≡ length values → last_or before values ≡ Some (get_or values last d)
last_is before [] last d e = absurd (omega (arith, e))
last_is before (value ∷ []) zero d e = refl
last_is before (value ∷ next ∷ values) zero d e = absurd (omega (arith, e))
last_is before (value ∷ values) (suc last) d e = last_is (Some value) values last d (omega (arith, e))

last-append : (before : Option ℤ) (xs ys : List ℤ) → last_or before (xs ++ ys) ≡ last_or (last_or before xs) ys
last-append before [] ys = refl
last-append before (x ∷ xs) ys = last-append (Some x) xs ys

last-copies : (before : Option ℤ) (n : ℕ) (x : ℤ) → last_or before (replicate (suc n) x) ≡ Some x
last-copies before zero x = refl
last-copies before (suc n) x = last-copies (Some x) n x

last-from : (start : ℕ) (before : Option ℤ) (ends : List ℕ) (values : List ℤ) → AreKept start before ends values → last_or before (items_from start ends values) ≡ last_or before values
last-from start before [] [] kept = refl
last-from start before [] (value ∷ values) kept = absurd kept
last-from start before (end ∷ ends) [] kept = absurd kept
last-from start before (end ∷ ends) (value ∷ values) kept =
    let longer = kept.0.longer in
    let some : end - start ≡ suc (end - start - 1) = omega arith in
    last-append before (replicate (end - start) value) (items_from end ends values)
    ∙ (ap (λ (o : Option ℤ). last_or o (items_from end ends values)) (ap (λ (n : ℕ). last_or before (replicate n value)) some ∙ last-copies before (end - start - 1) value)
    ∙ last-from end (Some value) ends values kept.1)

-- the last item is the value of the last run
pub last-items : (ends : List ℕ) (values : List ℤ) → AreLongest ends values → last_or None (all_items ends values) ≡ last_or None values
last-items ends values longest = last-from 0 None ends values longest

-- a list with a last value isn't empty
pub some_last : (values : List ℤ) (value : ℤ) → last_or None values ≡ Some value → 0 < length values
some_last [] value e = absurd (none e)
  where
    none : None ≡ Some value → ⊥
    none q = cc
some_last (first ∷ values) value e = omega arith

-- ---- what a test answers

pub told_same : (a b : ℕ) → IsTrue (nat_eq a b) → a ≡ b
told_same a b same = search rules

pub told_other : (a b : ℕ) → IsFalse (nat_eq a b) → a ≡ b → ⊥
told_other a b other = search (rules, Decides-eqb a b)

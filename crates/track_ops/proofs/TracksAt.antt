-- The track of a number: where it stands, and what changes with it alone.
use Rattle.std.proofs.Common.{◌≡◌, ◌≢◌, ℕ, zero, suc, ◌<◌, ◌||◌, ◌==◌, Bool, true, false, List, [], ◌∷◌, length, map, get_or, set, Some, None, if◌then◌else◌, refl, sym, ap, ◌∙◌, subst, arith, inl, inr}
use Rattle.std.specs.List.{AllByRecursion, find, list_any, sum_by}
use Rattle.std.proofs.lemmas.Bool.{eq-eqb, eqb-true, cases_Bool}
use Rattle.std.proofs.lemmas.List.Sums.{sum_by-cons}
use Rattle.mp_movie.specs.WellFormed.{AreDistinct}
use Rattle.track_ops.proofs.Lists.{neither}

-- ---- one item of a list is set

pub all_set : {A : Type 0} (P : A → Type 0) (xs : List A) (at : ℕ) (x : A) → AllByRecursion P xs → P x → AllByRecursion P (set xs at x)
all_set P [] at x all one = tt
all_set P (y ∷ xs) zero x all one = (one, all.1)
all_set P (y ∷ xs) (suc at) x all one = (all.0, all_set P xs at x all.1 one)

pub map_set : {A B : Type 0} (f : A → B) (xs : List A) (at : ℕ) (x : A) → map f (set xs at x) ≡ set (map f xs) at (f x)
map_set f [] at x = refl
map_set f (y ∷ xs) zero x = refl
map_set {B = B} f (y ∷ xs) (suc at) x = ap (λ (ys : List B). f y ∷ ys) (map_set f xs at x)

-- the same value again changes nothing
pub same_set : {A B : Type 0} (f : A → B) (xs : List A) (at : ℕ) (x d : A) → f x ≡ f (get_or xs at d) → map f (set xs at x) ≡ map f xs
same_set f [] at x d same = refl
same_set {B = B} f (y ∷ xs) zero x d same = ap (λ (z : B). z ∷ map f xs) same
same_set {B = B} f (y ∷ xs) (suc at) x d same = ap (λ (ys : List B). f y ∷ ys) (same_set f xs at x d same)

pub any_set : {A : Type 0} (passes : A → Bool) (xs : List A) (at : ℕ) (x : A) → at < length xs → list_any passes xs ≡ false → list_any passes (set xs at x) ≡ passes x
any_set passes [] at x lt none = absurd (omega (arith, lt))
any_set passes (y ∷ xs) zero x lt none = rw (neither (passes y) (list_any passes xs) none).1 (or_false (passes x))
  where
    or_false : (b : Bool) → (b || false) ≡ b
    or_false true = refl
    or_false false = refl
any_set passes (y ∷ xs) (suc at) x lt none =
    let both = neither (passes y) (list_any passes xs) none in
    rw both.0 (any_set passes xs at x (omega (arith, lt)) both.1)

pub sum_set : {A : Type 0} (f : A → ℕ) (xs : List A) (at : ℕ) (x d : A) → f x ≡ f (get_or xs at d) → sum_by f (set xs at x) ≡ sum_by f xs
sum_set f [] at x d same = refl
sum_set f (y ∷ xs) zero x d same = omega (arith, same, sum_by-cons f y xs, sum_by-cons f x xs)
sum_set f (y ∷ xs) (suc at) x d same = omega (arith, sum_set f xs at x d same, sum_by-cons f y xs, sum_by-cons f y (set xs at x))

pub length_set : {A : Type 0} (xs : List A) (at : ℕ) (x : A) → length (set xs at x) ≡ length xs
length_set [] at x = refl
length_set (y ∷ xs) zero x = refl
length_set (y ∷ xs) (suc at) x = ap suc (length_set xs at x)

pub all_at : {A : Type 0} (P : A → Type 0) (xs : List A) (at : ℕ) (d : A) → at < length xs → AllByRecursion P xs → P (get_or xs at d)
all_at P [] at d lt all = absurd (omega (arith, lt))
all_at P (x ∷ xs) zero d lt all = all.0
all_at P (x ∷ xs) (suc at) d lt all = all_at P xs at d (omega (arith, lt)) all.1

pub map_at : {A B : Type 0} (f : A → B) (xs : List A) (at : ℕ) (d : A) (e : B) → at < length xs → get_or (map f xs) at e ≡ f (get_or xs at d)
map_at f [] at d e lt = absurd (omega (arith, lt))
map_at f (x ∷ xs) zero d e lt = refl
map_at f (x ∷ xs) (suc at) d e lt = map_at f xs at d e (omega (arith, lt))

-- ---- the item of a number, where numbers are distinct

unequal : (a b : ℕ) → a ≢ b → (a == b) ≡ false
unequal a b differ = elim (cases_Bool (a == b)) [
  | inl same ↦ absurd (differ (eqb-true a b same))
  | inr other ↦ other
]

module _ {A : Type 0} (number_of : A → ℕ) (number : ℕ) where
  -- it is the first that has the number
  pub found_at : (xs : List A) (at : ℕ) (d : A) → AreDistinct (map number_of xs) → at < length xs → number_of (get_or xs at d) ≡ number → find (λ x. number_of x == number) xs ≡ Some (get_or xs at d)
  found_at [] at d distinct lt is = absurd (omega (arith, lt))
  found_at (x ∷ xs) zero d distinct lt is = rw (eq-eqb (number_of x) number is) refl
  found_at (x ∷ xs) (suc at) d distinct lt is =
      let other : number_of x ≢ number = λ same. all_at (λ n. n ≢ number_of x) (map number_of xs) at (number_of d) (omega (arith, lt, length-of xs)) distinct.0 (map_at number_of xs at d (number_of d) (omega (arith, lt)) ∙ (is ∙ sym same)) in
      rw (unequal (number_of x) number other) (found_at xs at d distinct.1 (omega (arith, lt)) is)
    where
      length-of : (ys : List A) → length (map number_of ys) ≡ length ys
      length-of [] = refl
      length-of (y ∷ ys) = ap suc (length-of ys)

  pub not_found : (xs : List A) → list_any (λ x. number_of x == number) xs ≡ false → find (λ x. number_of x == number) xs ≡ None
  not_found [] none = refl
  not_found (x ∷ xs) none =
      let both = neither (number_of x == number) (list_any (λ y. number_of y == number) xs) none in
      rw both.0 (not_found xs both.1)

  -- behind an item of the number no other has it
  none_changed : {B : Type 0} (change keep : A → B) (xs : List A) → AllByRecursion (λ n. n ≢ number) (map number_of xs) → map (λ x. if number_of x == number then change x else keep x) xs ≡ map keep xs
  none_changed change keep [] others = refl
  none_changed {B = B} change keep (x ∷ xs) others = rw (unequal (number_of x) number others.0) (ap (λ (ys : List B). keep x ∷ ys) (none_changed change keep xs others.1))

  -- it alone is changed
  pub changed_only : {B : Type 0} (change keep : A → B) (xs : List A) (at : ℕ) (d : A) → AreDistinct (map number_of xs) → at < length xs → number_of (get_or xs at d) ≡ number
      → map (λ x. if number_of x == number then change x else keep x) xs ≡ set (map keep xs) at (change (get_or xs at d))
  changed_only change keep [] at d distinct lt is = absurd (omega (arith, lt))
  changed_only {B = B} change keep (x ∷ xs) zero d distinct lt is =
      rw (eq-eqb (number_of x) number is) (ap (λ (ys : List B). change x ∷ ys) (none_changed change keep xs (subst (λ (n : ℕ). AllByRecursion (λ other. other ≢ n) (map number_of xs)) is distinct.0)))
  changed_only {B = B} change keep (x ∷ xs) (suc at) d distinct lt is =
      let other : number_of x ≢ number = λ same. all_at (λ n. n ≢ number_of x) (map number_of xs) at (number_of d) (omega (arith, lt, length-of xs)) distinct.0 (map_at number_of xs at d (number_of d) (omega (arith, lt)) ∙ (is ∙ sym same)) in
      rw (unequal (number_of x) number other) (ap (λ (ys : List B). keep x ∷ ys) (changed_only change keep xs at d distinct.1 (omega (arith, lt)) is))
    where
      length-of : (ys : List A) → length (map number_of ys) ≡ length ys
      length-of [] = refl
      length-of (y ∷ ys) = ap suc (length-of ys)

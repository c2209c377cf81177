-- Lists that are filtered and mapped.
use Rattle.std.proofs.Common.{◌≡◌, ◌≢◌, ℕ, ◌≤◌, ◌||◌, Bool, true, false, List, [], ◌∷◌, length, map, if◌then◌else◌, refl, ap, arith}
use Rattle.std.specs.List.{AllByRecursion, filter, list_any, sum_by}
use Rattle.std.proofs.lemmas.List.Sums.{sum_by-cons}
use Rattle.mp_movie.specs.WellFormed.{AreDistinct}

-- what holds of each value holds of those of the items that are kept
pub all_kept : {A B : Type 0} (P : B → Type 0) (f : A → B) (test : A → Bool) (xs : List A) → AllByRecursion P (map f xs) → AllByRecursion P (map f (filter test xs))
all_kept P f test [] all = tt
all_kept P f test (x ∷ xs) all = by (test x) (all_kept P f test xs all.1)
  where
    by : (b : Bool) → AllByRecursion P (map f (filter test xs)) → AllByRecursion P (map f (if b then x ∷ filter test xs else filter test xs))
    by true rest = (all.0, rest)
    by false rest = rest

pub all_filtered : {A : Type 0} (P : A → Type 0) (test : A → Bool) (xs : List A) → AllByRecursion P xs → AllByRecursion P (filter test xs)
all_filtered P test [] all = tt
all_filtered P test (x ∷ xs) all = by (test x) (all_filtered P test xs all.1)
  where
    by : (b : Bool) → AllByRecursion P (filter test xs) → AllByRecursion P (if b then x ∷ filter test xs else filter test xs)
    by true rest = (all.0, rest)
    by false rest = rest

pub distinct_kept : {A : Type 0} (f : A → ℕ) (test : A → Bool) (xs : List A) → AreDistinct (map f xs) → AreDistinct (map f (filter test xs))
distinct_kept f test [] all = tt
distinct_kept f test (x ∷ xs) all = by (test x) (distinct_kept f test xs all.1)
  where
    by : (b : Bool) → AreDistinct (map f (filter test xs)) → AreDistinct (map f (if b then x ∷ filter test xs else filter test xs))
    by true rest = (all_kept (λ other. other ≢ f x) f test xs all.0, rest)
    by false rest = rest

pub neither : (a b : Bool) → (a || b) ≡ false → (a ≡ false) × (b ≡ false)
neither true b none = (cc, cc)
neither false b none = (refl, none)

-- a test that no item passes is passed by none of those that are kept
pub none_kept : {A : Type 0} (passes test : A → Bool) (xs : List A) → list_any passes xs ≡ false → list_any passes (filter test xs) ≡ false
none_kept passes test [] none = refl
none_kept passes test (x ∷ xs) none = by (test x) (none_kept passes test xs (neither (passes x) (list_any passes xs) none).1)
  where
    by : (b : Bool) → list_any passes (filter test xs) ≡ false → list_any passes (if b then x ∷ filter test xs else filter test xs) ≡ false
    by true rest = rw (neither (passes x) (list_any passes xs) none).0 rest
    by false rest = rest

pub sum_kept : {A : Type 0} (f : A → ℕ) (test : A → Bool) (xs : List A) → sum_by f (filter test xs) ≤ sum_by f xs
sum_kept f test [] = omega arith
sum_kept f test (x ∷ xs) = by (test x) (sum_kept f test xs)
  where
    by : (b : Bool) → sum_by f (filter test xs) ≤ sum_by f xs → sum_by f (if b then x ∷ filter test xs else filter test xs) ≤ sum_by f (x ∷ xs)
    by true rest = omega (arith, rest, sum_by-cons f x xs, sum_by-cons f x (filter test xs))
    by false rest = omega (arith, rest, sum_by-cons f x xs)

pub fewer_kept : {A : Type 0} (test : A → Bool) (xs : List A) → length (filter test xs) ≤ length xs
fewer_kept test [] = omega arith
fewer_kept test (x ∷ xs) = by (test x) (fewer_kept test xs)
  where
    by : (b : Bool) → length (filter test xs) ≤ length xs → length (if b then x ∷ filter test xs else filter test xs) ≤ length (x ∷ xs)
    by true rest = omega (arith, rest)
    by false rest = omega (arith, rest)

-- values of items that are kept are the values that are kept
pub map_filter : {A B : Type 0} (f : A → B) (test : A → Bool) (other : B → Bool) → ((x : A) → other (f x) ≡ test x) → (xs : List A) → map f (filter test xs) ≡ filter other (map f xs)
map_filter f test other same [] = refl
map_filter {B = B} f test other same (x ∷ xs) = rw (same x) (by (test x) (map_filter f test other same xs))
  where
    by : (b : Bool) → map f (filter test xs) ≡ filter other (map f xs)
        → map f (if b then x ∷ filter test xs else filter test xs) ≡ (if b then f x ∷ filter other (map f xs) else filter other (map f xs))
    by true rest = ap (λ (ys : List B). f x ∷ ys) rest
    by false rest = rest

-- of changed items, and values changed alike
pub map_map : {A B : Type 0} (f : A → B) (g : A → A) (h : B → B) → ((x : A) → f (g x) ≡ h (f x)) → (xs : List A) → map f (map g xs) ≡ map h (map f xs)
map_map f g h same [] = refl
map_map {B = B} f g h same (x ∷ xs) = rw (same x) (ap (λ (ys : List B). h (f x) ∷ ys) (map_map f g h same xs))

-- values that no change reaches
pub map_same : {A B : Type 0} (f : A → B) (g : A → A) → ((x : A) → f (g x) ≡ f x) → (xs : List A) → map f (map g xs) ≡ map f xs
map_same f g same [] = refl
map_same {B = B} f g same (x ∷ xs) = rw (same x) (ap (λ (ys : List B). f x ∷ ys) (map_same f g same xs))

pub any_same : {A : Type 0} (passes : A → Bool) (g : A → A) → ((x : A) → passes (g x) ≡ passes x) → (xs : List A) → list_any passes (map g xs) ≡ list_any passes xs
any_same passes g same [] = refl
any_same passes g same (x ∷ xs) = rw (same x, any_same passes g same xs) refl

pub sum_same : {A : Type 0} (f : A → ℕ) (g : A → A) → ((x : A) → f (g x) ≡ f x) → (xs : List A) → sum_by f (map g xs) ≡ sum_by f xs
sum_same f g same [] = refl
sum_same f g same (x ∷ xs) = omega (arith, same x, sum_same f g same xs, sum_by-cons f x xs, sum_by-cons f (g x) (map g xs))

pub all_mapped : {A B : Type 0} (P : A → Type 0) (Q : B → Type 0) (f : A → B) → ((x : A) → P x → Q (f x)) → (xs : List A) → AllByRecursion P xs → AllByRecursion Q (map f xs)
all_mapped P Q f each [] all = tt
all_mapped P Q f each (x ∷ xs) all = (each x all.0, all_mapped P Q f each xs all.1)

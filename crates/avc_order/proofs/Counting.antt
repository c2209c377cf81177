-- How many are lower.
use Rattle.std.proofs.Common.{◌≡◌, ◌≢◌, ℕ, zero, suc, ◌+◌, ◌-◌, ◌<◌, ◌≤◌, ℤ, pos, int_lt, ◌≤ℤ◌, Bool, true, false, if◌then◌else◌, List, [], ◌∷◌, length, get_or, cond, refl, sym, ap, ◌∙◌, arith, inl, inr}
use Rattle.std.proofs.lemmas.Bool.{cases_Bool}
use Rattle.std.proofs.lemmas.Int.{ints}
use Rattle.std.proofs.lemmas.List.Sums.{sum_by-cons}
use Rattle.std.proofs.lemmas.List.Sorted.{sum_by-IsPermutation}
use Rattle.std.specs.List.{sum_by}
use Rattle.std.specs.List.Sorted.{IsPermutation, IsSorted}
use Rattle.std.specs.Ordering.{int_cmp, is_lt}
use Rattle.std.specs.declared.cmp.Ordering.TheVariants.{Less, Equal, Greater}
use Rattle.avc_order.specs.Ranks.{lower, count_at}
use Rattle.avc_order.specs.Rising.{Rises, IsFirstTie}

-- where the first i are lower and the others aren't, i are
pub count_front : (c : ℤ) (xs : List ℤ) (i : ℕ) → i ≤ length xs → ((k : ℕ) → k < i → int_lt (count_at xs k) c ≡ true) → ((k : ℕ) → i ≤ k → k < length xs → int_lt (count_at xs k) c ≡ false) → lower c xs ≡ i
unfolding lower
count_front c [] i le f g = omega arith
count_front c (x ∷ xs) zero le f g =
    let n : int_lt x c ≡ false = g 0 (omega arith) (omega arith) in
    let r = count_front c xs zero (omega arith) (λ k h. absurd (omega arith)) (λ k h lt. g (suc k) (omega arith) (omega arith)) in
    rw n (omega arith)
count_front c (x ∷ xs) (suc i) le f g =
    let y : int_lt x c ≡ true = f 0 (omega arith) in
    let r = count_front c xs i (omega arith) (λ k h. f (suc k) (omega arith)) (λ k h lt. g (suc k) (omega arith) (omega arith)) in
    rw y (omega arith)

pub lt-le : (a b c : ℤ) → a ≤ℤ b → int_lt b c ≡ true → int_lt a c ≡ true
lt-le a b c h e = grind (arith, ints)

pub le-not : (a b c : ℤ) → a ≤ℤ b → int_lt a c ≡ false → int_lt b c ≡ false
le-not a b c h e = grind (arith, ints)

-- ---- a sorted list

as_sum : (c : ℤ) (xs : List ℤ) → lower c xs ≡ sum_by (λ x. if int_lt x c then 1 else 0) xs
unfolding lower
as_sum c [] = refl
as_sum c (x ∷ xs) = ap (λ (n : ℕ). (if int_lt x c then 1 else 0) + n) (as_sum c xs) ∙ sym (sum_by-cons (λ x. if int_lt x c then 1 else 0) x xs)

pub lower_moved : (c : ℤ) (xs ys : List ℤ) → IsPermutation xs ys → lower c ys ≡ lower c xs
lower_moved c xs ys p = as_sum c ys ∙ sum_by-IsPermutation (λ x. if int_lt x c then 1 else 0) xs ys p ∙ sym (as_sum c xs)

next_le : (a b : ℤ) → int_lt b a ≡ false → a ≤ℤ b
next_le a b e = grind (arith, ints)

trans : (a b c : ℤ) → a ≤ℤ b → b ≤ℤ c → a ≤ℤ c
trans a b c h k = grind (arith, ints)

same_le : (a : ℤ) → a ≤ℤ a
same_le a = grind (arith, ints)

not_lt : (a b : ℤ) → is_lt (int_cmp a b) ≡ false → int_lt a b ≡ false
not_lt a b = go (int_lt a b)
  where
    go : (t : Bool) → is_lt (cond t Less (cond (int_lt b a) Greater Equal)) ≡ false → t ≡ false
    go true h = absurd cc
    go false h = refl

rises_by : (xs : List ℤ) (i n : ℕ) → IsSorted int_cmp xs → i + n < length xs → count_at xs i ≤ℤ count_at xs (i + n)
rises_by xs i zero s h = let e : i + zero ≡ i = omega arith in rw e (same_le (count_at xs i))
rises_by xs i (suc n) s h =
    let e : i + suc n ≡ (i + n) + 1 = omega arith in
    rw e (trans _ (count_at xs (i + n)) _ (rises_by xs i n s (omega arith)) (next_le _ _ (not_lt (count_at xs (i + n + 1)) (count_at xs (i + n)) (s (i + n) (pos 0) (omega arith) (omega arith)))))

pub rises_sorted : (xs : List ℤ) → IsSorted int_cmp xs → Rises xs
rises_sorted xs s = λ i j le lt. let e : j ≡ i + (j - i) = omega arith in rw e (rises_by xs i (j - i) s (omega arith))

-- ---- ranks

pub lower-le : (c : ℤ) (xs : List ℤ) → lower c xs ≤ length xs
unfolding lower
lower-le c [] = omega arith
lower-le c (x ∷ xs) = go (int_lt x c) (lower-le c xs)
  where
    go : (b : Bool) → lower c xs ≤ length xs → (if b then 1 else 0) + lower c xs ≤ suc (length xs)
    go true h = omega arith
    go false h = omega arith

lower-member : (c : ℤ) (xs : List ℤ) (at : ℕ) → at < length xs → int_lt (count_at xs at) c ≡ false → lower c xs < length xs
unfolding lower
lower-member c [] at h n = absurd (omega arith)
lower-member c (x ∷ xs) zero h n = let l = lower-le c xs in rw n (omega arith)
lower-member c (x ∷ xs) (suc at) h n = go (int_lt x c) (lower-member c xs at (omega arith) n)
  where
    go : (b : Bool) → lower c xs < length xs → (if b then 1 else 0) + lower c xs < suc (length xs)
    go true h = omega arith
    go false h = omega arith

not_self : (a : ℤ) → int_lt a a ≡ false
not_self a = grind (arith, ints)

pub lower-small : (xs : List ℤ) (at : ℕ) → at < length xs → lower (count_at xs at) xs < length xs
lower-small xs at h = lower-member (count_at xs at) xs at h (not_self (count_at xs at))

further : (a c d : ℤ) → int_lt c d ≡ true → int_lt a c ≡ true → int_lt a d ≡ true
further a c d h k = grind (arith, ints)

each_less : (x c d : ℤ) → int_lt c d ≡ true → (if int_lt x c then 1 else 0) ≤ (if int_lt x d then 1 else 0)
each_less x c d h = go (int_lt x c) (int_lt x d) (further x c d h)
  where
    go : (a b : Bool) → (a ≡ true → b ≡ true) → (if a then 1 else 0) ≤ (if b then 1 else 0)
    go true true f = omega arith
    go true false f = absurd (let h = f refl in cc)
    go false b f = omega arith

lower-less_or_same : (c d : ℤ) (xs : List ℤ) → int_lt c d ≡ true → lower c xs ≤ lower d xs
unfolding lower
lower-less_or_same c d [] h = omega arith
lower-less_or_same c d (x ∷ xs) h = omega (arith, each_less x c d h, lower-less_or_same c d xs h)

-- fewer are lower than a lower count that is there
lower-less : (c d : ℤ) (xs : List ℤ) (at : ℕ) → int_lt c d ≡ true → at < length xs → count_at xs at ≡ c → lower c xs < lower d xs
unfolding lower
lower-less c d [] at h lt e = absurd (omega arith)
lower-less c d (x ∷ xs) zero h lt e =
    let n : int_lt x c ≡ false = rw e (not_self c) in
    let y : int_lt x d ≡ true = rw e h in
    rw (n, y) (omega (arith, lower-less_or_same c d xs h))
lower-less c d (x ∷ xs) (suc at) h lt e = omega (arith, each_less x c d h, lower-less c d xs at h (omega arith) e)

equal_or : (a b : ℤ) → int_lt a b ≡ false → int_lt b a ≡ false → a ≡ b
equal_or a b h k = grind (arith, ints)

-- counts of one rank are one count
pub same_rank : (xs : List ℤ) (i j : ℕ) → i < length xs → j < length xs → lower (count_at xs i) xs ≡ lower (count_at xs j) xs → count_at xs i ≡ count_at xs j
same_rank xs i j hi hj e = elim (cases_Bool (int_lt (count_at xs i) (count_at xs j))) [
  | inl y ↦ absurd (let l = lower-less (count_at xs i) (count_at xs j) xs i y hi refl in omega arith)
  | inr n ↦ elim (cases_Bool (int_lt (count_at xs j) (count_at xs i))) [
    | inl y ↦ absurd (let l = lower-less (count_at xs j) (count_at xs i) xs j y hj refl in omega arith)
    | inr m ↦ equal_or (count_at xs i) (count_at xs j) n m
  ]
]

pub tie_from : (xs : List ℤ) (i r : ℕ) (taken : List Bool) → i < length xs → r ≡ lower (count_at xs i) xs → get_or taken r false ≡ true
    → ((k : ℕ) → get_or taken k false ≡ true → (j : ℕ) × (j < i) × (lower (count_at xs j) xs ≡ k)) → ((p j : ℕ) → j < p → p < i → count_at xs j ≢ count_at xs p) → IsFirstTie xs i
tie_from xs i r taken h e t seen distinct =
    let s = seen r t in
    record { within = h; earlier = s.0; before = s.1; same = same_rank xs s.0 i (omega arith) h (s.2 ∙ e); first = distinct }

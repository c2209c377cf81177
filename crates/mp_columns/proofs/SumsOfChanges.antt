-- The sums of items that are changed one by one.
use Rattle.std.proofs.Common.{◌≡◌, ℕ, zero, suc, ◌+◌, ◌*◌, ◌^◌, ◌<◌, ◌≤◌, List, [], ◌∷◌, length, map, take, get_or, set, All, ℤ, pos, neg_ℤ, ◌+ℤ◌, ◌*ℤ◌, ◌≤ℤ◌, FitsSigned, w64, int_div, int_rem, refl, sym, ap, subst, ◌∙◌, arith, inl, inr, ◌⊎◌}
use Rattle.std.specs.Int.{w128}
use Rattle.std.specs.Prelude.{negsuc, ◌/◌}
use Rattle.std.proofs.lemmas.Int.{ints, fits_signed_from_abs}
use Rattle.std.proofs.Math.IntN.{pos-*ℤ-pos, negsuc-*ℤ-pos}
use Rattle.std.proofs.Math.Nat.{mul-div_cancel, zero-div, div-le_self}
use Rattle.std.proofs.lemmas.Bool.{cases_lt}
use Rattle.std.proofs.lemmas.List.{take-map, get_or-set_same, get_or-set_other}
use Rattle.std.proofs.lemmas.List.Elements.{All-take}
use Rattle.mp_columns.specs.declared.columns.TheConstants.{MOST_ITEMS}
use Rattle.mp_columns.specs.Numbers.{total}
use Rattle.mp_columns.specs.Kept.{IsSum}
use Rattle.mp_columns.proofs.Mapping.{quotients_times}
use Rattle.mp_columns.proofs.Summing.{abs_within, times_more, total-from}

total-cons : (x : ℤ) (xs : List ℤ) → total (x ∷ xs) ≡ x +ℤ total xs
total-cons x xs = let sum = total-from (pos 0 +ℤ x) xs in omega (arith, ints, sum)

-- a sum of items that fit is not far from 0
pub record IsNear (count : ℕ) (sum : ℤ) : Type 0 where
  pub low : neg_ℤ (pos (2 ^ 63 * count)) ≤ℤ sum
  pub high : sum ≤ℤ pos (2 ^ 63 * count)

near : (f : ℤ → ℤ) (n : ℕ) (xs : List ℤ) → n ≤ length xs → All (λ x. FitsSigned w64 (f x)) xs → IsNear n (total (map f (take n xs)))
near f zero xs le fits = record { low = omega (arith, ints); high = omega (arith, ints) }
near f (suc n) [] le fits = absurd (omega (arith, le))
near f (suc n) (x ∷ xs) le fits =
    let own = fits 0 x (omega arith) in
    let rest = near f n xs (omega (arith, le)) (λ i d lt. fits (suc i) d (omega (arith, lt))) in
    let low = rest.low in
    let high = rest.high in
    let sum = total-cons (f x) (map f (take n xs)) in
    record { low = omega (arith, ints, own, low, sum); high = omega (arith, ints, own, high, sum) }

-- the sum of the changed items
is_sum : (f : ℤ → ℤ) (n : ℕ) (items : List ℤ) (now : ℤ) → now ≡ total (map f (take n items)) → IsNear n now → IsSum (map f items) n now
is_sum f n items now is bounds = record { is = is ∙ ap total (sym (take-map f n items)); low = bounds.low; high = bounds.high }

near_if : (f : ℤ → ℤ) (n : ℕ) (items : List ℤ) (now : ℤ) → n ≤ length items → All (λ x. FitsSigned w64 (f x)) items → now ≡ total (map f (take n items)) → IsSum (map f items) n now
near_if f n items now le fits is = is_sum f n items now is (subst (λ (x : ℤ). IsNear n x) (sym is) (near f n items le fits))

-- so it fits where it is kept
pub sum_fits : (items : List ℤ) (n : ℕ) (sum : ℤ) → n ≤ MOST_ITEMS → IsSum items n sum → FitsSigned w128 sum
sum_fits items n sum few is =
    let low = is.low in
    let high = is.high in
    fits_signed_from_abs w128 sum (omega (arith, abs_within sum (2 ^ 86) (omega (arith, ints, low, few)) (omega (arith, ints, high, few))))

pub sum_low : (items : List ℤ) (n : ℕ) (sum : ℤ) → n ≤ MOST_ITEMS → IsSum items n sum → neg_ℤ (pos (2 ^ 100)) ≤ℤ sum
sum_low items n sum few is = let low = is.low in omega (arith, ints, low, few)

pub sum_high : (items : List ℤ) (n : ℕ) (sum : ℤ) → n ≤ MOST_ITEMS → IsSum items n sum → sum ≤ℤ pos (2 ^ 100)
sum_high items n sum few is = let high = is.high in omega (arith, ints, high, few)

-- ---- each kind of change

times_sum : (n : ℕ) (x y : ℤ) → (x +ℤ y) *ℤ pos n ≡ (x *ℤ pos n) +ℤ (y *ℤ pos n)
times_sum zero x y = omega (arith, ints)
times_sum (suc n) x y =
    let rest = times_sum n x y in
    let of_x = times_more x n in
    let of_y = times_more y n in
    let of_both = times_more (x +ℤ y) n in
    omega (arith, ints, rest, of_x, of_y, of_both)

pub total-times : (k : ℕ) (xs : List ℤ) → total (map (λ x. x *ℤ pos k) xs) ≡ total xs *ℤ pos k
total-times k [] = omega (arith, ints)
total-times k (x ∷ xs) =
    total-cons (x *ℤ pos k) (map (λ y. y *ℤ pos k) xs)
    ∙ (ap (λ (s : ℤ). (x *ℤ pos k) +ℤ s) (total-times k xs) ∙ (sym (times_sum k x (total xs)) ∙ ap (λ (s : ℤ). s *ℤ pos k) (sym (total-cons x xs))))

pub total-plus : (by : ℤ) (n : ℕ) (xs : List ℤ) → n ≤ length xs → total (map (λ x. x +ℤ by) (take n xs)) ≡ total (take n xs) +ℤ (by *ℤ pos n)
total-plus by zero xs le = omega (arith, ints)
total-plus by (suc n) [] le = absurd (omega (arith, le))
total-plus by (suc n) (x ∷ xs) le =
    let now = total-cons (x +ℤ by) (map (λ y. y +ℤ by) (take n xs)) in
    let was = total-cons x (take n xs) in
    let rest = total-plus by n xs (omega (arith, le)) in
    let more = times_more by n in
    omega (arith, ints, now, was, rest, more)

negative_quotient : (m k : ℕ) → int_div (neg_ℤ (pos m)) (pos k) ≡ neg_ℤ (pos (m / k))
negative_quotient zero k = rw (zero-div k) refl
negative_quotient (suc m) k = refl

quotient_of_product : (t : ℤ) (k : ℕ) → 1 ≤ k → int_div (t *ℤ pos k) (pos k) ≡ t
quotient_of_product (pos n) k some = ap (λ (x : ℤ). int_div x (pos k)) (pos-*ℤ-pos n k) ∙ ap (λ (m : ℕ). pos m) (mul-div_cancel n some)
quotient_of_product (negsuc n) k some =
    ap (λ (x : ℤ). int_div x (pos k)) (negsuc-*ℤ-pos n k) ∙ (negative_quotient (suc n * k) k ∙ ap (λ (m : ℕ). neg_ℤ (pos m)) (mul-div_cancel (suc n) some))

pub total-quotients : (k : ℕ) (xs : List ℤ) → 1 ≤ k → All (λ x. int_rem x (pos k) ≡ pos 0) xs → int_div (total xs) (pos k) ≡ total (map (λ x. int_div x (pos k)) xs)
total-quotients k xs some whole =
    let quotients = map (λ (x : ℤ). int_div x (pos k)) xs in
    let back : total xs ≡ total quotients *ℤ pos k = ap total (sym (quotients_times k xs whole)) ∙ total-times k quotients in
    ap (λ (x : ℤ). int_div x (pos k)) back ∙ quotient_of_product (total quotients) k some

quotient_near : (count k : ℕ) (sum : ℤ) → IsNear count sum → IsNear count (int_div sum (pos k))
quotient_near count k (pos n) bounds = let high = bounds.high in let less = div-le_self n k in record { low = omega (arith, ints); high = omega (arith, ints, high, less) }
quotient_near count k (negsuc n) bounds =
    let low = bounds.low in
    let less = div-le_self (suc n) k in
    record { low = omega (arith, ints, low, less); high = omega (arith, ints) }

-- ---- the sums that are kept

pub scaled_sum : (k n : ℕ) (items : List ℤ) (sum : ℤ) → n ≤ length items → All (λ x. FitsSigned w64 (x *ℤ pos k)) items → IsSum items n sum → IsSum (map (λ x. x *ℤ pos k) items) n (sum *ℤ pos k)
scaled_sum k n items sum le fits was = near_if (λ x. x *ℤ pos k) n items (sum *ℤ pos k) le fits (ap (λ (x : ℤ). x *ℤ pos k) was.is ∙ sym (total-times k (take n items)))

pub divided_sum : (k n : ℕ) (items : List ℤ) (sum : ℤ) → 1 ≤ k → All (λ x. int_rem x (pos k) ≡ pos 0) items → IsSum items n sum → IsSum (map (λ x. int_div x (pos k)) items) n (int_div sum (pos k))
divided_sum k n items sum some whole was =
    is_sum (λ x. int_div x (pos k)) n items (int_div sum (pos k)) (ap (λ (x : ℤ). int_div x (pos k)) was.is ∙ total-quotients k (take n items) some (All-take (λ x. int_rem x (pos k) ≡ pos 0) n items whole))
    (quotient_near n k sum (record { low = was.low; high = was.high }))

pub shifted_sum : (by : ℤ) (n : ℕ) (items : List ℤ) (sum : ℤ) → n ≤ length items → All (λ x. FitsSigned w64 (x +ℤ by)) items → IsSum items n sum → IsSum (map (λ x. x +ℤ by) items) n (sum +ℤ (by *ℤ pos n))
shifted_sum by n items sum le fits was = near_if (λ x. x +ℤ by) n items (sum +ℤ (by *ℤ pos n)) le fits (ap (λ (x : ℤ). x +ℤ (by *ℤ pos n)) was.is ∙ sym (total-plus by n items le))

-- a walk that replaces each sum by a function of its place and of it
pub one_replaced : (f : ℕ → ℤ → ℤ) (old now : List ℤ) (at : ℕ) (image : ℤ) → at < length now → image ≡ f at (get_or old at (pos 0)) → ((i : ℕ) → i < at → get_or now i (pos 0) ≡ f i (get_or old i (pos 0)))
    → (i : ℕ) → i < at + 1 → get_or (set now at image) i (pos 0) ≡ f i (get_or old i (pos 0))
one_replaced f old now at image inside is before i lt = by (cases_lt i at)
  where
    by : (i < at) ⊎ (at ≤ i) → get_or (set now at image) i (pos 0) ≡ f i (get_or old i (pos 0))
    by (inl less) = get_or-set_other now at i image (pos 0) (λ e. omega (arith, e, less)) ∙ before i less
    by (inr more) = let same : i ≡ at = omega (arith, lt, more) in rw same (get_or-set_same now at image (pos 0) inside ∙ is)

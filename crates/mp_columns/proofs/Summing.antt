-- Sums of the first items, run after run.
use Rattle.std.proofs.Common.{◌≡◌, ℕ, zero, suc, ◌+◌, ◌-◌, ◌*◌, ◌^◌, ◌<◌, ◌≤◌, List, [], ◌∷◌, ◌++◌, length, replicate, take, None, ℤ, pos, neg_ℤ, ◌+ℤ◌, ◌*ℤ◌, ◌≤ℤ◌, fold, FitsSigned, w64, to_z, of_z, refl, sym, ap, subst, ◌∙◌, arith}
use Rattle.std.specs.Prelude.{unsigned_abs, negsuc}
use Rattle.std.specs.Int.{w128}
use Rattle.std.proofs.lemmas.Int.{ints, to_z-of_z, fits_signed_from_abs}
use Rattle.std.proofs.lemmas.List.{length-replicate, take_at, take-append-le, take-replicate}
use Rattle.std.proofs.lemmas.List.Sums.{fold-append}
use Rattle.mp_columns.specs.Numbers.{total}
use Rattle.mp_columns.specs.Kept.{AreLongest, IsSum, all_items, end_at, start_at, value_at}
use Rattle.mp_columns.proofs.CutAtRuns.{IsRunAt, run_at, take_past}
use Rattle.mp_columns.proofs.Searching.{start_next}

pub total-from : (a : ℤ) (xs : List ℤ) → fold ◌+ℤ◌ a xs ≡ a +ℤ total xs
total-from a [] = omega (arith, ints)
total-from a (x ∷ xs) =
    let first = total-from (a +ℤ x) xs in
    let own = total-from (pos 0 +ℤ x) xs in
    omega (arith, ints, first, own)

pub total-append : (xs ys : List ℤ) → total (xs ++ ys) ≡ total xs +ℤ total ys
total-append xs ys = fold-append ◌+ℤ◌ (pos 0) xs ys ∙ total-from (total xs) ys

pub times_more : (x : ℤ) (n : ℕ) → x *ℤ pos (suc n) ≡ x +ℤ (x *ℤ pos n)
times_more x n = omega (arith, ints)

pub total-replicate : (n : ℕ) (x : ℤ) → total (replicate n x) ≡ x *ℤ pos n
total-replicate zero x = omega (arith, ints)
total-replicate (suc n) x =
    let rest = total-from (pos 0 +ℤ x) (replicate n x) in
    let own = total-replicate n x in
    let more = times_more x n in
    omega (arith, ints, rest, own, more)

-- ---- bounds

low_times : (n : ℕ) (x : ℤ) → neg_ℤ (pos (2 ^ 63)) ≤ℤ x → neg_ℤ (pos (2 ^ 63 * n)) ≤ℤ (x *ℤ pos n)
low_times zero x low = omega (arith, ints)
low_times (suc n) x low = let rest = low_times n x low in let more = times_more x n in omega (arith, ints, rest, more)

high_times : (n : ℕ) (x : ℤ) → x ≤ℤ pos (2 ^ 63) → (x *ℤ pos n) ≤ℤ pos (2 ^ 63 * n)
high_times zero x high = omega (arith, ints)
high_times (suc n) x high = let rest = high_times n x high in let more = times_more x n in omega (arith, ints, rest, more)

pub abs_within : (x : ℤ) (most : ℕ) → neg_ℤ (pos most) ≤ℤ x → x ≤ℤ pos most → unsigned_abs x ≤ most
abs_within (pos n) most low high = omega (arith, ints, high)
abs_within (negsuc n) most low high = omega (arith, ints, low)

-- the code's sum is the sum
pub added_is : (sum value r s : ℤ) (count : ℕ) → r ≡ value → s ≡ pos count → count < 2 ^ 32 → FitsSigned w64 value → FitsSigned w128 sum → FitsSigned w128 value → FitsSigned w128 (pos count) → neg_ℤ (pos (2 ^ 100)) ≤ℤ sum → sum ≤ℤ pos (2 ^ 100)
    → to_z w128 (of_z w128 (to_z w128 (of_z w128 sum) +ℤ to_z w128 (of_z w128 (to_z w128 (of_z w128 r) *ℤ to_z w128 (of_z w128 s))))) ≡ sum +ℤ (value *ℤ pos count)
added_is sum value r s count re se few fits sum_fits value_fits count_fits low high =
    let least = low_times count value (omega (arith, ints, fits)) in
    let most = high_times count value (omega (arith, ints, fits)) in
    let product = value *ℤ pos count in
    let product_fits : FitsSigned w128 product = fits_signed_from_abs w128 product (omega (arith, abs_within product (2 ^ 95) (omega (arith, ints, least)) (omega (arith, ints, most)))) in
    let total_fits : FitsSigned w128 (sum +ℤ product) = fits_signed_from_abs w128 (sum +ℤ product) (omega (arith, abs_within (sum +ℤ product) (2 ^ 101) (omega (arith, ints, least)) (omega (arith, ints, most)))) in
    rw (re, se, to_z-of_z w128 sum sum_fits, to_z-of_z w128 value value_fits, to_z-of_z w128 (pos count) count_fits, to_z-of_z w128 product product_fits, to_z-of_z w128 (sum +ℤ product) total_fits) refl

-- ---- within a run

-- the items up to one of a run
first_items : (ends : List ℕ) (values : List ℤ) (run to : ℕ) → IsRunAt 0 ends values run → start_at ends run ≤ to → to ≤ end_at ends run
    → total (take to (all_items ends values)) ≡ total (take (start_at ends run) (all_items ends values)) +ℤ (value_at values run *ℤ pos (to - start_at ends run))
first_items ends values run to r begun ended =
    let start = start_at ends run in
    let value = value_at values run in
    let own = replicate (end_at ends run - start) value in
    let parts : to ≡ start + (to - start) = omega arith in
    let front : length r.front ≡ start = omega (arith, r.front_len) in
    let some : take to (all_items ends values) ≡ r.front ++ replicate (to - start) value =
    ap (take to) r.items
    ∙ (ap (λ (n : ℕ). take n (r.front ++ (own ++ r.behind))) parts
    ∙ (take_past start (to - start) r.front (own ++ r.behind) front
    ∙ ap (λ (xs : List ℤ). r.front ++ xs) (take-append-le (to - start) own r.behind (omega (arith, length-replicate (end_at ends run - start) value)) ∙ take-replicate (to - start) (end_at ends run - start) value (omega arith)))) in
    let before : take start (all_items ends values) ≡ r.front = ap (take start) r.items ∙ take_at r.front (own ++ r.behind) start front in
    ap total some ∙ (total-append r.front (replicate (to - start) value) ∙ (ap (λ (x : ℤ). total r.front +ℤ x) (total-replicate (to - start) value) ∙ ap (λ (xs : List ℤ). total xs +ℤ (value *ℤ pos (to - start))) (sym before)))

-- a sum up to a run, and then up to an item of it
pub sum_more : (ends : List ℕ) (values : List ℤ) (run to : ℕ) (sum : ℤ) → AreLongest ends values → run < length ends → FitsSigned w64 (value_at values run) → start_at ends run ≤ to → to ≤ end_at ends run
    → IsSum (all_items ends values) (start_at ends run) sum → IsSum (all_items ends values) to (sum +ℤ (value_at values run *ℤ pos (to - start_at ends run)))
sum_more ends values run to sum longest lt fits begun ended so_far =
    let r = run_at 0 None ends values run longest lt in
    let value = value_at values run in
    let count = to - start_at ends run in
    let low = low_times count value (omega (arith, ints, fits)) in
    let high = high_times count value (omega (arith, ints, fits)) in
    let was_low = so_far.low in
    let was_high = so_far.high in
    record {
      is = ap (λ (x : ℤ). x +ℤ (value *ℤ pos count)) so_far.is ∙ sym (first_items ends values run to r begun ended);
      low = omega (arith, ints, low, was_low);
      high = omega (arith, ints, high, was_high);
    }

-- a sum with the whole run
pub sum_next : (ends : List ℕ) (values : List ℤ) (run start : ℕ) (sum more : ℤ) → AreLongest ends values → run < length ends → FitsSigned w64 (value_at values run) → start ≡ start_at ends run
    → IsSum (all_items ends values) (start_at ends run) sum → more ≡ sum +ℤ (value_at values run *ℤ pos (end_at ends run - start)) → IsSum (all_items ends values) (start_at ends (run + 1)) more
sum_next ends values run start sum more longest lt fits begun so_far is =
    let longer = (run_at 0 None ends values run longest lt).longer in
    let through = sum_more ends values run (end_at ends run) sum longest lt fits (omega (arith, longer)) (omega arith) so_far in
    let same : sum +ℤ (value_at values run *ℤ pos (end_at ends run - start_at ends run)) ≡ more = ap (λ (n : ℕ). sum +ℤ (value_at values run *ℤ pos (end_at ends run - n))) (sym begun) ∙ sym is in
    rw (start_next ends run) (subst (λ (x : ℤ). IsSum (all_items ends values) (end_at ends run) x) same through)

-- behind no item
pub no_sum : (items : List ℤ) → IsSum items 0 (pos 0)
no_sum items = record { is = refl; low = omega (arith, ints); high = omega (arith, ints) }

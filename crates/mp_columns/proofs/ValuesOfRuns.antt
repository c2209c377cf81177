-- The values of runs stand for all items.
use Rattle.std.proofs.Common.{◌≡◌, ◌≢◌, ℕ, zero, suc, ◌+◌, ◌-◌, ◌*◌, ◌<◌, ◌≤◌, List, [], ◌∷◌, ◌++◌, length, replicate, map, get_or, All, Option, Some, None, ℤ, pos, max, fold, refl, ap, subst, ◌∙◌, arith}
use Rattle.std.specs.Prelude.{unsigned_abs, IfSome, option_map}
use Rattle.std.specs.Int.{◌∣◌}
use Rattle.std.specs.List.{AllByRecursion}
use Rattle.std.proofs.lemmas.List.{length-replicate, get_or-append_right, get_or_append_left, get_or-replicate, get_or_default}
use Rattle.std.proofs.lemmas.List.Sums.{fold-append}
use Rattle.mp_frac.specs.Divisors.{IsGreatestCommon}
use Rattle.mp_columns.specs.Numbers.{largest}
use Rattle.mp_columns.specs.Kept.{AreKept, AreLongest, all_items, end_at, items_from, start_at, value_at}
use Rattle.mp_columns.proofs.CutAtRuns.{run_at, starts_within}
use Rattle.mp_columns.proofs.Searching.{start_next}

-- each item of a run is its value
pub item_at : (ends : List ℕ) (values : List ℤ) (run i : ℕ) (d : ℤ) → AreLongest ends values → run < length ends → start_at ends run ≤ i → i < end_at ends run → get_or (all_items ends values) i d ≡ value_at values run
item_at ends values run i d longest lt begun ended =
    let r = run_at 0 None ends values run longest lt in
    let start = start_at ends run in
    let own = replicate (end_at ends run - start) (value_at values run) in
    let front : length r.front ≡ start = omega (arith, r.front_len) in
    ap (λ (xs : List ℤ). get_or xs i d) r.items
    ∙ (get_or-append_right r.front (own ++ r.behind) start i d front begun
    ∙ (get_or_append_left own r.behind d (i - start) (omega (arith, length-replicate (end_at ends run - start) (value_at values run)))
    ∙ get_or-replicate (end_at ends run - start) (i - start) (value_at values run) d (omega arith)))

-- what holds for each item holds for each value
pub values_all : (P : ℤ → Type 0) (ends : List ℕ) (values : List ℤ) → AreLongest ends values → length ends ≡ length values → All P (all_items ends values) → All P values
values_all P ends values longest same all run d lt =
    let r = run_at 0 None ends values run longest (omega (arith, same)) in
    let longer = r.longer in
    let within : start_at ends run < length (all_items ends values) = omega (arith, starts_within 0 None ends values (run + 1) longest (omega (arith, same)), start_next ends run) in
    subst P (item_at ends values run (start_at ends run) (pos 0) longest (omega (arith, same)) (omega arith) (omega arith) ∙ get_or_default values run (pos 0) d lt) (all (start_at ends run) (pos 0) within)

some_same : (x y : ℤ) → Some x ≡ Some y → x ≡ y
some_same x y e = cc

tells : (f : ℤ → ℤ) (P : ℤ → Type 0) → ((x y : ℤ) → P x → P y → f x ≡ f y → x ≡ y) → (last : Option ℤ) (value : ℤ) → IfSome last P → P value → last ≢ Some value → option_map f last ≢ Some (f value)
tells f P told None value p own ne e = cc
tells f P told (Some x) value p own ne e = ne (ap (λ (y : ℤ). Some y) (told x value p own (some_same (f x) (f value) e)))

-- other values, which differ where they did
pub mapped : (f : ℤ → ℤ) (P : ℤ → Type 0) → ((x y : ℤ) → P x → P y → f x ≡ f y → x ≡ y) → (start : ℕ) (before : Option ℤ) (ends : List ℕ) (values : List ℤ) → AreKept start before ends values → IfSome before P → AllByRecursion P values
    → AreKept start (option_map f before) ends (map f values)
mapped f P told start before [] [] kept first all = tt
mapped f P told start before [] (value ∷ values) kept first all = absurd kept
mapped f P told start before (end ∷ ends) [] kept first all = absurd kept
mapped f P told start before (end ∷ ends) (value ∷ values) kept first all =
    (record { longer = kept.0.longer; other = tells f P told before value first all.0 kept.0.other }, mapped f P told end (Some value) ends values kept.1 all.0 all.1)

-- ---- the greatest

same_max : (m a : ℕ) → max (max m a) a ≡ max m a
same_max m a = omega arith

max_again : (n most : ℕ) (x : ℤ) → fold (λ m y. max m (unsigned_abs y)) most (replicate (suc n) x) ≡ max most (unsigned_abs x)
max_again zero most x = refl
max_again (suc n) most x = max_again n (max most (unsigned_abs x)) x ∙ same_max most (unsigned_abs x)

largest-from : (most start : ℕ) (before : Option ℤ) (ends : List ℕ) (values : List ℤ) → AreKept start before ends values → fold (λ m y. max m (unsigned_abs y)) most (items_from start ends values) ≡ fold (λ m y. max m (unsigned_abs y)) most values
largest-from most start before [] [] kept = refl
largest-from most start before [] (value ∷ values) kept = absurd kept
largest-from most start before (end ∷ ends) [] kept = absurd kept
largest-from most start before (end ∷ ends) (value ∷ values) kept =
    let longer = kept.0.longer in
    let some : end - start ≡ suc (end - start - 1) = omega arith in
    let step = λ (m : ℕ) (y : ℤ). max m (unsigned_abs y) in
    fold-append step most (replicate (end - start) value) (items_from end ends values)
    ∙ (ap (λ (m : ℕ). fold step m (items_from end ends values)) (ap (λ (n : ℕ). fold step most (replicate n value)) some ∙ max_again (end - start - 1) most value)
    ∙ largest-from (max most (unsigned_abs value)) end (Some value) ends values kept.1)

pub largest-items : (ends : List ℕ) (values : List ℤ) → AreLongest ends values → largest (all_items ends values) ≡ largest values
largest-items ends values longest = largest-from 0 0 None ends values longest

-- ---- the common divisor

copies_hold : (P : ℕ → Type 0) (n : ℕ) (x : ℤ) (xs : List ℤ) → P (unsigned_abs x) → AllByRecursion P (map unsigned_abs xs) → AllByRecursion P (map unsigned_abs (replicate n x ++ xs))
copies_hold P zero x xs own all = all
copies_hold P (suc n) x xs own all = (own, copies_hold P n x xs own all)

items_hold : (P : ℕ → Type 0) (start : ℕ) (ends : List ℕ) (values : List ℤ) → AllByRecursion P (map unsigned_abs values) → AllByRecursion P (map unsigned_abs (items_from start ends values))
items_hold P start [] values all = tt
items_hold P start (end ∷ ends) [] all = tt
items_hold P start (end ∷ ends) (value ∷ values) all = copies_hold P (end - start) value (items_from end ends values) all.0 (items_hold P end ends values all.1)

copies_held : (P : ℕ → Type 0) (n : ℕ) (x : ℤ) (xs : List ℤ) → AllByRecursion P (map unsigned_abs (replicate (suc n) x ++ xs)) → P (unsigned_abs x) × AllByRecursion P (map unsigned_abs xs)
copies_held P zero x xs all = all
copies_held P (suc n) x xs all = copies_held P n x xs all.1

values_hold : (P : ℕ → Type 0) (start : ℕ) (before : Option ℤ) (ends : List ℕ) (values : List ℤ) → AreKept start before ends values → AllByRecursion P (map unsigned_abs (items_from start ends values)) → AllByRecursion P (map unsigned_abs values)
values_hold P start before [] [] kept all = tt
values_hold P start before [] (value ∷ values) kept all = absurd kept
values_hold P start before (end ∷ ends) [] kept all = absurd kept
values_hold P start before (end ∷ ends) (value ∷ values) kept all =
    let longer = kept.0.longer in
    let some : end - start ≡ suc (end - start - 1) = omega arith in
    let held = copies_held P (end - start - 1) value (items_from end ends values) (subst (λ (n : ℕ). AllByRecursion P (map unsigned_abs (replicate n value ++ items_from end ends values))) some all) in
    (held.0, values_hold P end (Some value) ends values kept.1 held.1)

pub divisor-items : (ends : List ℕ) (values : List ℤ) (greatest : ℕ) → AreLongest ends values → IsGreatestCommon (map unsigned_abs values) greatest → IsGreatestCommon (map unsigned_abs (all_items ends values)) greatest
divisor-items ends values greatest longest is = record {
  divides = items_hold (λ number. greatest ∣ number) 0 ends values is.divides;
  divided = λ factor divisor all. is.divided factor divisor (values_hold (λ number. divisor ∣ number * factor) 0 None ends values longest all);
}

-- What is kept are the longest runs of the items.
use Rattle.std.proofs.Common.{◌≡◌, ℕ, zero, suc, ◌+◌, ◌-◌, ◌*◌, ◌^◌, ◌<◌, ◌≤◌, List, [], ◌∷◌, ◌++◌, length, replicate, take, drop, get_or, Option, Some, None, ℤ, pos, refl, sym, ap, ◌∙◌, arith, inl, inr}
use Rattle.std.specs.List.{sum_by}
use Rattle.std.proofs.lemmas.Bool.{cases_lt}
use Rattle.std.proofs.Math.Nat.{pow-suc}
use Rattle.std.proofs.Math.Pow.{pow_mono}
use Rattle.std.proofs.lemmas.List.{length-replicate, drop-append-le, drop-replicate, drop_at, get_or-drop, length-append}
use Rattle.std.proofs.lemmas.List.Sums.{sum_by-cons}
use Rattle.mp_columns.specs.Stretch.{Stretch, count_of}
use Rattle.mp_columns.specs.Runs.{HoldsItem, IsLongestRun, runs}
use Rattle.mp_columns.specs.Kept.{AreKept, AreLongest, all_items, end_at, items_from, start_at, value_at}
use Rattle.mp_columns.proofs.LongestRuns.{Differs, runs-copies}
use Rattle.mp_columns.proofs.CutAtRuns.{run_at, drop_past}
use Rattle.mp_columns.proofs.Searching.{start_next}

first_differs : (n : ℕ) (x y : ℤ) (ys : List ℤ) → 0 < n → (x ≡ y → ⊥) → Differs x (replicate n y ++ ys)
first_differs zero x y ys some ne = absurd (omega arith)
first_differs (suc n) x y ys some ne = ne

differs : (start : ℕ) (value : ℤ) (ends : List ℕ) (values : List ℤ) → AreKept start (Some value) ends values → Differs value (items_from start ends values)
differs start value [] [] kept = tt
differs start value [] (next ∷ values) kept = absurd kept
differs start value (end ∷ ends) [] kept = absurd kept
differs start value (end ∷ ends) (next ∷ values) kept =
    let longer = kept.0.longer in
    first_differs (end - start) value next (items_from end ends values) (omega arith) (λ e. kept.0.other (ap (λ (x : ℤ). Some x) e))

-- the first run, and the others
first_run : (start end : ℕ) (value : ℤ) (ends : List ℕ) (values : List ℤ) → start < end → AreKept end (Some value) ends values
    → runs (replicate (end - start) value ++ items_from end ends values) ≡ record { first = value; others = replicate (end - start - 1) value } ∷ runs (items_from end ends values)
first_run start end value ends values longer kept =
    let some : end - start ≡ suc (end - start - 1) = omega arith in
    ap (λ (n : ℕ). runs (replicate n value ++ items_from end ends values)) some ∙ runs-copies (end - start - 1) value (items_from end ends values) (differs end value ends values kept)

length-runs-from : (start : ℕ) (before : Option ℤ) (ends : List ℕ) (values : List ℤ) → AreKept start before ends values → length (runs (items_from start ends values)) ≡ length ends
length-runs-from start before [] [] kept = refl
length-runs-from start before [] (value ∷ values) kept = absurd kept
length-runs-from start before (end ∷ ends) [] kept = absurd kept
length-runs-from start before (end ∷ ends) (value ∷ values) kept = ap length (first_run start end value ends values kept.0.longer kept.1) ∙ ap suc (length-runs-from end (Some value) ends values kept.1)

pub length-runs : (ends : List ℕ) (values : List ℤ) → AreLongest ends values → length (runs (all_items ends values)) ≡ length ends
length-runs ends values longest = length-runs-from 0 None ends values longest

-- the runs before one of them have as many items as stand before it
counts-from : (start : ℕ) (before : Option ℤ) (ends : List ℕ) (values : List ℤ) (run : ℕ) → AreKept start before ends values → run ≤ length ends
    → start + sum_by count_of (take run (runs (items_from start ends values))) ≡ get_or (start ∷ ends) run 0
counts-from start before ends values zero kept le = omega arith
counts-from start before [] values (suc run) kept le = absurd (omega arith)
counts-from start before (end ∷ ends) [] (suc run) kept le = absurd kept
counts-from start before (end ∷ ends) (value ∷ values) (suc run) kept le =
    let longer = kept.0.longer in
    let rest = counts-from end (Some value) ends values run kept.1 (omega arith) in
    let own : Stretch ℤ = record { first = value; others = replicate (end - start - 1) value } in
    let left = take run (runs (items_from end ends values)) in
    let all : sum_by count_of (take (suc run) (runs (items_from start (end ∷ ends) (value ∷ values)))) ≡ sum_by count_of (own ∷ left) =
    ap (λ (found : List (Stretch ℤ)). sum_by count_of (take (suc run) found)) (first_run start end value ends values longer kept.1) in
    omega (arith, all, sum_by-cons count_of own left, length-replicate (end - start - 1) value, rest)

pub holds_item : (ends : List ℕ) (values : List ℤ) (run i : ℕ) → AreLongest ends values → run < length ends → start_at ends run ≤ i → i < end_at ends run → HoldsItem (all_items ends values) run i
holds_item ends values run i longest lt begun ended =
    let upto = counts-from 0 None ends values run longest (omega arith) in
    let through = counts-from 0 None ends values (run + 1) longest (omega arith) in
    let next = start_next ends run in
    record {
      inside = omega (arith, length-runs ends values longest);
      begun = omega (arith, upto);
      holds = omega (arith, through, next);
    }

-- the run that is left from an item on
pub run_is_longest : (ends : List ℕ) (values : List ℤ) (run from : ℕ) → AreLongest ends values → run < length ends → start_at ends run ≤ from → from < end_at ends run
    → IsLongestRun (all_items ends values) from (end_at ends run) (record { value = value_at values run; count = end_at ends run - from })
run_is_longest ends values run from longest lt begun ended =
    let r = run_at 0 None ends values run longest lt in
    let start = start_at ends run in
    let end = end_at ends run in
    let value = value_at values run in
    let own = replicate (end - start) value in
    let front : length r.front ≡ start = omega (arith, r.front_len) in
    let own_len = length-replicate (end - start) value in
    let longer = r.longer in
    let all_len = length-front r.front own r.behind in
    let left : drop from (all_items ends values) ≡ replicate (end - from) value ++ r.behind =
    let parts : from ≡ start + (from - start) = omega arith in
    let less : end - start - (from - start) ≡ end - from = omega arith in
    ap (drop from) r.items
    ∙ (ap (λ (n : ℕ). drop n (r.front ++ (own ++ r.behind))) parts
    ∙ (drop_past start (from - start) r.front (own ++ r.behind) front
    ∙ (drop-append-le (from - start) own r.behind (omega (arith, own_len))
    ∙ ap (λ (xs : List ℤ). xs ++ r.behind) (drop-replicate (from - start) (end - start) value ∙ ap (λ (n : ℕ). replicate n value) less)))) in
    let after : drop end (all_items ends values) ≡ r.behind =
    let parts : end ≡ start + (end - start) = omega arith in
    ap (drop end) r.items
    ∙ (ap (λ (n : ℕ). drop n (r.front ++ (own ++ r.behind))) parts
    ∙ (drop_past start (end - start) r.front (own ++ r.behind) front ∙ drop_at own r.behind (end - start) own_len)) in
    let whole : length (all_items ends values) ≡ end + length r.behind = omega (arith, ap length r.items, all_len, front, own_len) in
    record {
      some = omega arith;
      end = omega arith;
      inside = omega (arith, whole);
      equal = left ∙ ap (λ (xs : List ℤ). replicate (end - from) value ++ xs) (sym after);
      other = λ lt same. r.other (omega (arith, lt, whole)) (sym (item_behind (all_items ends values) r.behind end after) ∙ same);
    }
  where
    length-front : (xs ys zs : List ℤ) → length (xs ++ (ys ++ zs)) ≡ length xs + length ys + length zs
    length-front xs ys zs = omega (arith, length-append xs (ys ++ zs), length-append ys zs)

    item_behind : (xs ys : List ℤ) (n : ℕ) → drop n xs ≡ ys → get_or xs n (pos 0) ≡ get_or ys 0 (pos 0)
    item_behind xs ys n e = let same : n + 0 ≡ n = omega arith in ap (λ (k : ℕ). get_or xs k (pos 0)) (sym same) ∙ (sym (get_or-drop n xs 0 (pos 0)) ∙ ap (λ (zs : List ℤ). get_or zs 0 (pos 0)) e)

pub next_is : (ends : List ℕ) (values : List ℤ) (run from end : ℕ) (value : ℤ) → AreLongest ends values → run < length ends → start_at ends run ≤ from → from < end_at ends run → end ≡ end_at ends run → value ≡ value_at values run
    → IsLongestRun (all_items ends values) from (from + (end - from)) (record { value = value; count = end - from })
next_is ends values run from end value longest lt begun ended end_is value_is =
    let stop : from + (end_at ends run - from) ≡ end_at ends run = omega (arith, ended) in
    rw (value_is, end_is, stop) (run_is_longest ends values run from longest lt begun ended)

-- ---- what the search costs

-- one step more than the number of runs has binary digits
pub digits_of_steps : (steps count digits : ℕ) → 2 ^ steps ≤ 4 * count → count < 2 ^ digits → steps ≤ digits + 1
digits_of_steps steps count digits cost few = elim (cases_lt (digits + 1) steps) [
  | inl more ↦ let rise : 2 ^ suc (suc digits) ≤ 2 ^ steps = pow_mono (omega (arith, more)) in absurd (omega (arith, cost, few, rise, pow-suc 2 (suc digits), pow-suc 2 digits))
  | inr le ↦ le
]

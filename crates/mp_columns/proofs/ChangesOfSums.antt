-- Sums that stay when items follow.
use Rattle.std.proofs.Common.{◌≡◌, ℕ, zero, suc, ◌+◌, ◌-◌, ◌*◌, ◌/◌, ◌<◌, ◌≤◌, List, [], ◌∷◌, ◌++◌, length, take, get_or, set, ℤ, pos, refl, sym, ap, subst, ◌∙◌, arith, inl, inr, ◌⊎◌, ◌%◌}
use Rattle.std.proofs.lemmas.List.{take-append-le, take-take, length-take-le, get_or-take, get_or_append_left, get_or-set_same, get_or-set_other, get_or_push, length_push}
use Rattle.std.proofs.lemmas.Bool.{cases_lt}
use Rattle.mp_columns.specs.Numbers.{total}
use Rattle.mp_columns.specs.Kept.{AreSums, IsSum, end_at, start_at}
use Rattle.mp_columns.proofs.Searching.{rises_by}

-- the sum of the first items is the same in a longer list
pub same_sum : (items more longer : List ℤ) (count : ℕ) (sum : ℤ) → longer ≡ items ++ more → count ≤ length items → IsSum items count sum → IsSum longer count sum
same_sum items more longer count sum is le was = record {
  is = was.is ∙ ap total (sym (ap (take count) is ∙ take-append-le count items more le));
  low = was.low;
  high = was.high;
}

-- so the sums that are kept stay, where their runs begin where they did
pub same_sums : (runs : ℕ) (ends later : List ℕ) (items more longer sums : List ℤ) → longer ≡ items ++ more → ((run : ℕ) → run < runs → start_at later run ≡ start_at ends run) → ((run : ℕ) → run < runs → start_at ends run ≤ length items)
    → AreSums runs ends items sums → AreSums runs later longer sums
same_sums runs ends later items more longer sums is same within were = record {
  count = were.count;
  each = λ at lt.
      let inside : 16 * at < runs = omega (arith, lt, were.count) in
      rw (same (16 * at) inside) (same_sum items more longer (start_at ends (16 * at)) (get_or sums at (pos 0)) is (within (16 * at) inside) (were.each at lt));
}

-- where the last run ends changes no beginning
pub start-set : (ends : List ℕ) (last end run : ℕ) → run ≤ last → start_at (set ends last end) run ≡ start_at ends run
start-set ends last end zero le = refl
start-set ends last end (suc run) le = get_or-set_other ends last run end 0 (λ e. omega (arith, e, le))

-- nor does a run more
pub start-push : (ends : List ℕ) (end run : ℕ) → run ≤ length ends → start_at (ends ++ end ∷ []) run ≡ start_at ends run
start-push ends end zero le = refl
start-push ends end (suc run) le = get_or_append_left ends (end ∷ []) 0 run (omega (arith, le))

-- nor that runs behind it are gone
start-take : (ends : List ℕ) (count run : ℕ) → run ≤ count → start_at (take count ends) run ≡ start_at ends run
start-take ends count zero le = refl
start-take ends count (suc run) le = get_or-take count ends run 0 (omega (arith, le))

-- the sum of the first items is the same where those behind them are gone
fewer_items : (items : List ℤ) (to count : ℕ) (sum : ℤ) → count ≤ to → IsSum items count sum → IsSum (take to items) count sum
fewer_items items to count sum le was = record { is = was.is ∙ ap total (sym (take-take count to items le)); low = was.low; high = was.high }

-- the sums that are left where a run is the last one, and ends earlier
pub cut_sums : (ends : List ℕ) (items sums : List ℤ) (run to : ℕ) → ((k : ℕ) → k < length ends → start_at ends k < end_at ends k) → run < length ends → start_at ends run ≤ to → AreSums (length ends) ends items sums
    → AreSums (run + 1) (set (take (run + 1) ends) run to) (take to items) (take (run / 16 + 1) sums)
cut_sums ends items sums run to rising lt begun were =
    let left = length-take-le (run / 16 + 1) sums (omega (arith, lt, were.count)) in
    record {
      count = omega (arith, left);
      each = λ at less.
          let before : 16 * at ≤ run = omega (arith, less, left) in
          let parts : 16 * at + (run - 16 * at) ≡ run = omega (arith, before) in
          let rise = rises_by ends (16 * at) (run - 16 * at) rising (omega (arith, parts, lt)) in
          let whole : start_at ends (16 * at + (run - 16 * at)) ≡ start_at ends run = ap (start_at ends) parts in
          let same = start-set (take (run + 1) ends) run to (16 * at) before ∙ start-take ends (run + 1) (16 * at) (omega (arith, before)) in
          rw (same, get_or-take (run / 16 + 1) sums at (pos 0) (omega (arith, before)))
          (fewer_items items to (start_at ends (16 * at)) (get_or sums at (pos 0)) (omega (arith, rise, whole, begun)) (were.each at (omega (arith, before, lt, were.count))));
    }

-- ---- one sum more

pub sum_pushed : (runs : ℕ) (ends : List ℕ) (items sums : List ℤ) (sum : ℤ) → runs ≡ 16 * (runs / 16) → IsSum items (start_at ends runs) sum → AreSums runs ends items sums → AreSums (runs + 1) ends items (sums ++ sum ∷ [])
sum_pushed runs ends items sums sum whole is were = record {
  count = omega (arith, length_push sums sum, were.count, whole);
  each = λ at lt. by at lt (cases_lt at (length sums));
}
  where
    by : (at : ℕ) → at < length (sums ++ sum ∷ []) → (at < length sums) ⊎ (length sums ≤ at) → IsSum items (start_at ends (16 * at)) (get_or (sums ++ sum ∷ []) at (pos 0))
    by at lt (inl old) = subst (λ (x : ℤ). IsSum items (start_at ends (16 * at)) x) (sym (get_or_append_left sums (sum ∷ []) (pos 0) at old)) (were.each at old)
    by at lt (inr new) =
        let last : at ≡ length sums = omega (arith, lt, new, length_push sums sum) in
        let run : 16 * at ≡ runs = omega (arith, last, were.count, whole) in
        rw (run, get_or_push sums sum (pos 0) at (sym last)) is

-- none where none is due
pub sum_not_due : (runs : ℕ) (ends : List ℕ) (items sums : List ℤ) → (runs % 16 ≡ 0 → ⊥) → AreSums runs ends items sums → AreSums (runs + 1) ends items sums
sum_not_due runs ends items sums not_due were = record { count = omega (arith, were.count, positive (runs % 16) not_due); each = were.each }
  where
    positive : (n : ℕ) → (n ≡ 0 → ⊥) → 0 < n
    positive zero ne = absurd (ne refl)
    positive (suc n) ne = omega arith

-- ---- the sums are written one after the other

-- those at the runs before one of them
abbrev pub AreSumsBefore : ℕ → List ℕ → List ℤ → List ℤ → Type 0
AreSumsBefore run ends items sums = (at : ℕ) → 16 * at < run → IsSum items (start_at ends (16 * at)) (get_or sums at (pos 0))

pub sum_written : (run : ℕ) (ends : List ℕ) (items sums : List ℤ) (sum : ℤ) → run % 16 ≡ 0 → run / 16 < length sums → IsSum items (start_at ends run) sum → AreSumsBefore run ends items sums → AreSumsBefore (run + 1) ends items (set sums (run / 16) sum)
sum_written run ends items sums sum due inside is were at lt = by (cases_lt (16 * at) run)
  where
    by : (16 * at < run) ⊎ (run ≤ 16 * at) → IsSum items (start_at ends (16 * at)) (get_or (set sums (run / 16) sum) at (pos 0))
    by (inl before) = subst (λ (x : ℤ). IsSum items (start_at ends (16 * at)) x) (sym (get_or-set_other sums (run / 16) at sum (pos 0) (λ e. omega (arith, e, before, due)))) (were at before)
    by (inr now) =
        let same : 16 * at ≡ run = omega (arith, lt, now) in
        let place : at ≡ run / 16 = omega (arith, same) in
        rw (same, place) (subst (λ (x : ℤ). IsSum items (start_at ends run) x) (sym (get_or-set_same sums (run / 16) sum (pos 0) inside)) is)

pub sum_not_written : (run : ℕ) (ends : List ℕ) (items sums : List ℤ) → (run % 16 ≡ 0 → ⊥) → AreSumsBefore run ends items sums → AreSumsBefore (run + 1) ends items sums
sum_not_written run ends items sums not_due were at lt = by (cases_lt (16 * at) run)
  where
    by : (16 * at < run) ⊎ (run ≤ 16 * at) → IsSum items (start_at ends (16 * at)) (get_or sums at (pos 0))
    by (inl before) = were at before
    by (inr now) = let same : 16 * at ≡ run = omega (arith, lt, now) in absurd (not_due (omega (arith, same)))

-- A binary search: where it stands, and what it costs.
use Rattle.std.proofs.Common.{◌≡◌, ℕ, zero, suc, ◌+◌, ◌-◌, ◌*◌, ◌^◌, ◌<◌, ◌≤◌, List, [], ◌∷◌, length, add-one, min, refl, ap, arith, inl, inr, ◌⊎◌}
use Rattle.std.proofs.Math.Nat.{mul-le-mul_left, pow-suc}
use Rattle.std.proofs.lemmas.Bool.{cases_lt}
use Rattle.mp_columns.specs.Kept.{CanFind, end_at, start_at}

-- a run begins where the one before it ends
pub start_next : (ends : List ℕ) (run : ℕ) → start_at ends (run + 1) ≡ end_at ends run
start_next ends run = rw (add-one run) refl

pub start_behind : (ends : List ℕ) (run : ℕ) → (run ≡ 0 → ⊥) → start_at ends run ≡ end_at ends (run - 1)
start_behind ends zero some = absurd (some refl)
start_behind ends (suc run) some = let one : suc run - 1 ≡ run = omega arith in rw one refl

pub some_run : (ends : List ℕ) (i : ℕ) → i < start_at ends (length ends) → 0 < length ends
some_run [] i lt = absurd (omega arith)
some_run (end ∷ ends) i lt = omega arith

pub last_end : (ends : List ℕ) (i : ℕ) → i < start_at ends (length ends) → i < end_at ends (length ends - 1)
last_end [] i lt = absurd (omega arith)
last_end (end ∷ ends) i lt = let one : suc (length ends) - 1 ≡ length ends = omega arith in rw one lt

-- so many runs have at least so many items
pub rises_by : (ends : List ℕ) (run more : ℕ) → ((k : ℕ) → k < length ends → start_at ends k < end_at ends k) → run + more ≤ length ends → start_at ends run + more ≤ start_at ends (run + more)
rises_by ends run zero rising le = let none : run + 0 ≡ run = omega arith in rw none (omega arith)
rises_by ends run (suc more) rising le =
    let next : run + suc more ≡ run + more + 1 = omega arith in
    let own = rising (run + more) (omega (arith, le)) in
    let before = rises_by ends run more rising (omega (arith, le)) in
    rw (next, start_next ends (run + more)) (omega (arith, own, before))

-- the runs behind the first candidate have no more items than there are
pub lowest_begun : (ends : List ℕ) (i len : ℕ) → CanFind ends i → len ≡ start_at ends (length ends) → start_at ends (length ends - (len - i)) ≤ i
lowest_begun ends i len find is = by (cases_lt (length ends) (len - i))
  where
    by : (length ends < len - i) ⊎ (len - i ≤ length ends) → start_at ends (length ends - (len - i)) ≤ i
    by (inl less) = let none : length ends - (len - i) ≡ 0 = omega (arith, less) in rw none (omega arith)
    by (inr more) =
        let inside = find.inside in
        let all : length ends - (len - i) + (len - i) ≡ length ends = omega (arith, more) in
        let rise = rises_by ends (length ends - (len - i)) (len - i) find.rising (omega (arith, all)) in
        let same : start_at ends (length ends - (len - i) + (len - i)) ≡ start_at ends (length ends) = ap (start_at ends) all in
        omega (arith, rise, same, is, inside)

-- there are no more runs than items
pub few_runs : (ends : List ℕ) → ((k : ℕ) → k < length ends → start_at ends k < end_at ends k) → length ends ≤ start_at ends (length ends)
few_runs ends rising =
    let rise = rises_by ends 0 (length ends) rising (omega arith) in
    let none : 0 + length ends ≡ length ends = omega arith in
    let same : start_at ends (0 + length ends) ≡ start_at ends (length ends) = ap (start_at ends) none in
    omega (arith, rise, same)

pub lowest_few : (ends : List ℕ) (i len : ℕ) → CanFind ends i → len ≡ start_at ends (length ends) → length ends - (len - i) ≤ i
lowest_few ends i len find is = omega (arith, few_runs ends find.rising, is)

pub lowest_within : (ends : List ℕ) (i len : ℕ) → CanFind ends i → len ≡ start_at ends (length ends) → length ends - (len - i) < length ends
lowest_within ends i len find is =
    let inside = find.inside in
    omega (arith, some_run ends i find.inside, is, inside)

-- nor do those before the last one
pub highest_holds : (ends : List ℕ) (i : ℕ) → CanFind ends i → i < end_at ends (min (length ends - 1) i)
highest_holds ends i find = by (cases_lt i (length ends))
  where
    by : (i < length ends) ⊎ (length ends ≤ i) → i < end_at ends (min (length ends - 1) i)
    by (inl less) =
        let last : min (length ends - 1) i ≡ i = omega (arith, less) in
        let rise = rises_by ends 0 (i + 1) find.rising (omega (arith, less)) in
        let none : 0 + (i + 1) ≡ i + 1 = omega arith in
        let same : start_at ends (0 + (i + 1)) ≡ start_at ends (i + 1) = ap (start_at ends) none in
        rw last (omega (arith, rise, same, start_next ends i))
    by (inr more) = let last : min (length ends - 1) i ≡ length ends - 1 = omega (arith, more) in rw last (last_end ends i find.inside)

-- ---- steps

pub one_more_cost : (p w n : ℕ) → 0 < w → p * w ≤ n → 2 * p ≤ 2 * n
one_more_cost p w n some h = omega (arith, mul-le-mul_left p (one_le w some), h)
  where
    one_le : (x : ℕ) → 0 < x → 1 ≤ x
    one_le x q = q

pub one_more_width : (p w v n : ℕ) → 2 * v ≤ w → p * w ≤ n → (2 * p) * v ≤ n
one_more_width p w v n h e = omega (arith, mul-le-mul_left p h, e)

pub next_pow : (a b c : ℕ) → c ≡ b + 1 → a ≤ b → 2 ^ (c - a) ≡ 2 * 2 ^ (b - a)
next_pow a b c e le = let k : c - a ≡ suc (b - a) = omega arith in rw k (omega (arith, pow-suc 2 (b - a)))

pub first_step : (old new : ℕ) → new ≡ old + 1 → 2 ^ (new - old) ≡ 2
first_step old new e = let one : new - old ≡ 1 = omega (arith, e) in rw one refl

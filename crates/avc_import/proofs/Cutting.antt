-- What comes next in a text, by its zeros and its units.
use Rattle.std.proofs.Common.{◌≡◌, ◌≢◌, ℕ, zero, suc, ◌+◌, ◌<◌, true, false, List, [], ◌∷◌, ◌++◌, length, take, drop, replicate, refl, sym, ap, ◌∙◌, arith, inl, inr}
use Rattle.std.proofs.lemmas.List.{drop-drop}
use Rattle.avc_units.specs.Units.{only_zeros, is_break, ends, last_of, IsUnit, IsNoStart, IsEmptyUnit, IsFault, Placed, HasUnitsFrom}
use Rattle.avc_units.specs.Reading.{zeros_of}
use Rattle.avc_units.specs.Scan.{unit_len, found, step, step_from}
use Rattle.avc_units.specs.Scan.Step.{NoUnit, OneUnit, Fault}

no : {A : Type 0} → true ≡ false → A
no h = absurd cc

whole_rest : (x : ℕ) (xs : List ℕ) → ((n : ℕ) → is_break (drop n (x ∷ xs)) ≡ false) → (n : ℕ) → is_break (drop n xs) ≡ false
whole_rest x xs h n = h (suc n)

unit-read : (u after : List ℕ) → last_of u ≢ 0 → ((n : ℕ) → is_break (drop n u) ≡ false) → ends after ≡ true → unit_len (u ++ after) ≡ length u
unfolding unit_len
unit-read [] after l w e = absurd (l refl)
unit-read (suc x ∷ []) [] l w e = refl
unit-read (suc x ∷ []) (a ∷ after) l w e = rw e refl
unit-read (suc x ∷ y ∷ ys) after l w e = ap suc (unit-read (y ∷ ys) after l (whole_rest (suc x) (y ∷ ys) w) e)
unit-read (zero ∷ []) after l w e = absurd (l refl)
unit-read (zero ∷ suc y ∷ ys) after l w e = ap suc (unit-read (suc y ∷ ys) after l (whole_rest 0 (suc y ∷ ys) w) e)
unit-read (zero ∷ zero ∷ []) after l w e = absurd (l refl)
unit-read (zero ∷ zero ∷ zero ∷ zs) after l w e = no (w 0)
unit-read (zero ∷ zero ∷ suc zero ∷ zs) after l w e = no (w 0)
unit-read (zero ∷ zero ∷ suc (suc z) ∷ zs) after l w e = ap suc (unit-read (zero ∷ suc (suc z) ∷ zs) after l (whole_rest 0 (zero ∷ suc (suc z) ∷ zs) w) e)

zeros-start : (n : ℕ) (t : List ℕ) → zeros_of (replicate n 0 ++ (0 ∷ 0 ∷ 1 ∷ t)) ≡ n + 2
zeros-start zero t = refl
zeros-start (suc n) t = let h = zeros-start n t in omega arith

drop-start : (n k : ℕ) (t : List ℕ) → k ≡ n + 2 → drop k (replicate n 0 ++ (0 ∷ 0 ∷ 1 ∷ t)) ≡ 1 ∷ t
drop-start zero k t e = rw e refl
drop-start (suc n) zero t e = absurd (omega arith)
drop-start (suc n) (suc k) t e = drop-start n k t (omega arith)

start-is : (z n : ℕ) (t : List ℕ) → z ≡ n + 2 → step_from z (1 ∷ t) ≡ found (n + 3) (unit_len t)
start-is zero n t e = absurd (omega arith)
start-is (suc zero) n t e = absurd (omega arith)
start-is (suc (suc z)) n t e = ap (λ (k : ℕ). found k (unit_len t)) (omega arith)

found-some : (u n : ℕ) → 0 < n → found u n ≡ OneUnit u n
found-some u zero h = absurd (omega arith)
found-some u (suc n) h = refl

some-long : (u : List ℕ) → last_of u ≢ 0 → 0 < length u
some-long [] h = absurd (h refl)
some-long (x ∷ xs) h = omega arith

-- a unit behind zeros is the next one
step-unit : (n : ℕ) (u after : List ℕ) → IsUnit u → ends after ≡ true → step (replicate n 0 ++ (0 ∷ 0 ∷ 1 ∷ (u ++ after))) ≡ OneUnit (n + 3) (length u)
step-unit n u after h e =
    rw (drop-start n (zeros_of (replicate n 0 ++ (0 ∷ 0 ∷ 1 ∷ (u ++ after)))) (u ++ after) (zeros-start n (u ++ after)), start-is (zeros_of (replicate n 0 ++ (0 ∷ 0 ∷ 1 ∷ (u ++ after)))) n (u ++ after) (zeros-start n (u ++ after)), unit-read u after h.last h.whole e)
    (found-some (n + 3) (length u) (some-long u h.last))

-- ---- faults

no_start_so : (z x : ℕ) (after : List ℕ) → x ≢ 0 → (x ≡ 1 → z < 2) → step_from z (x ∷ after) ≡ Fault z
no_start_so z zero after some start = absurd (some refl)
no_start_so zero (suc x) after some start = refl
no_start_so (suc zero) (suc x) after some start = refl
no_start_so (suc (suc z)) (suc zero) after some start = absurd (let h = start refl in omega arith)
no_start_so (suc (suc z)) (suc (suc x)) after some start = refl

zeros_in_front : (n x : ℕ) (after : List ℕ) → x ≢ 0 → (zeros_of (replicate n 0 ++ (x ∷ after)) ≡ n) × (drop n (replicate n 0 ++ (x ∷ after)) ≡ x ∷ after)
zeros_in_front n zero after some = absurd (some refl)
zeros_in_front zero (suc x) after some = (refl, refl)
zeros_in_front (suc n) (suc x) after some = let h = zeros_in_front n (suc x) after some in (ap suc h.0, h.1)

no_start_step : (t : List ℕ) (place : ℕ) → IsNoStart t place → step t ≡ Fault place
no_start_step t place h =
    let z = zeros_in_front place h.byte h.after h.some in
    let count : zeros_of t ≡ place = ap zeros_of h.text_is ∙ z.0 in
    let here : drop (zeros_of t) t ≡ h.byte ∷ h.after = ap (λ (k : ℕ). drop k t) count ∙ ap (drop place) h.text_is ∙ z.1 in
    rw here (no_start_so (zeros_of t) h.byte h.after h.some (λ e. let k = h.no_start e in omega arith)) ∙ ap Fault count

ends-none : (t : List ℕ) → ends t ≡ true → unit_len t ≡ 0
unfolding unit_len
ends-none [] e = refl
ends-none (x ∷ xs) e = rw e refl

empty_step : (t : List ℕ) (place : ℕ) → IsEmptyUnit t place → step t ≡ Fault place
empty_step t place h =
    let text = replicate h.zeros 0 ++ (0 ∷ 0 ∷ 1 ∷ h.after) in
    let s : step text ≡ found (h.zeros + 3) (unit_len h.after) = rw (drop-start h.zeros (zeros_of text) h.after (zeros-start h.zeros h.after)) (start-is (zeros_of text) h.zeros h.after (zeros-start h.zeros h.after)) in
    ap step h.text_is ∙ s ∙ ap (found (h.zeros + 3)) (ends-none h.after h.none) ∙ ap Fault (sym h.place_is)

pub fault_step : (t : List ℕ) (place : ℕ) → IsFault t place → step t ≡ Fault place
fault_step t place (inl h) = no_start_step t place h
fault_step t place (inr h) = empty_step t place h

-- ---- nothing

pub none_step : (t : List ℕ) → only_zeros t ≡ true → step t ≡ NoUnit
none_step t zeros = rw (all_dropped t zeros) (nothing_from (zeros_of t))
  where
    all_dropped : (t : List ℕ) → only_zeros t ≡ true → drop (zeros_of t) t ≡ []
    all_dropped [] zeros = refl
    all_dropped (zero ∷ xs) zeros = all_dropped xs zeros
    all_dropped (suc x ∷ xs) zeros = absurd cc

    nothing_from : (z : ℕ) → step_from z [] ≡ NoUnit
    nothing_from zero = refl
    nothing_from (suc zero) = refl
    nothing_from (suc (suc z)) = refl

-- ---- one unit further

-- the last of these units is what comes next behind the others
pub record IsStep (file : List ℕ) (at : ℕ) (u : Placed) (end : ℕ) : Type 0 where
  pub skipped : ℕ
  pub from_is : u.from ≡ at + skipped
  pub step_is : step (drop at file) ≡ OneUnit skipped (length u.bytes)
  pub end_is : end ≡ u.from + length u.bytes
  pub some : 0 < length u.bytes
  pub bytes_is : take (length u.bytes) (drop u.from file) ≡ u.bytes

drop-code : (n k : ℕ) (t : List ℕ) → k ≡ n + 3 → drop k (replicate n 0 ++ (0 ∷ 0 ∷ 1 ∷ t)) ≡ t
drop-code zero k t e = rw e refl
drop-code (suc n) zero t e = absurd (omega arith)
drop-code (suc n) (suc k) t e = drop-code n k t (omega arith)

front-taken : (xs ys : List ℕ) → take (length xs) (xs ++ ys) ≡ xs
front-taken [] ys = refl
front-taken (x ∷ xs) ys = ap (λ (t : List ℕ). x ∷ t) (front-taken xs ys)

pub last_step : (file : List ℕ) (place at end : ℕ) (us : List Placed) (u : Placed) → HasUnitsFrom place file us at → HasUnitsFrom place file (us ++ u ∷ []) end
    → IsStep file at u end
last_step file place at end [] u here (n, after, text, from, unit, behind, last) = record {
  skipped = n + 3;
  from_is = from ∙ ap (λ (k : ℕ). k + n + 3) here ∙ further at n;
  step_is = ap (λ (k : ℕ). step (drop k file)) (sym here) ∙ ap step text ∙ step-unit n u.bytes after unit behind;
  end_is = sym last;
  some = some-long u.bytes unit.last;
  bytes_is = ap (take (length u.bytes)) bytes_there ∙ front-taken u.bytes after;
}
  where
    bytes_there : drop u.from file ≡ u.bytes ++ after
    bytes_there =
        let sum : place + (n + 3) ≡ u.from = omega (arith, from) in
        ap (λ (k : ℕ). drop k file) (sym sum) ∙ sym (drop-drop (n + 3) place file) ∙ ap (drop (n + 3)) text ∙ drop-code n (n + 3) (u.bytes ++ after) refl

    further : (at n : ℕ) → at + n + 3 ≡ at + (n + 3)
    further at n = omega arith
last_step file place at end (v ∷ vs) u (n, after, text, from, unit, behind, rest) (m, later, same_text, same_from, same_unit, same_behind, more) =
    last_step file (v.from + length v.bytes) at end vs u rest more

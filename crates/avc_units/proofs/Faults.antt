-- What comes next is a unit, a fault or nothing, and it is just one of them.
use Rattle.std.proofs.Common.{◌≡◌, ◌≢◌, ◌⊎◌, ℕ, zero, suc, ◌+◌, ◌<◌, ◌≤◌, true, inl, inr, List, [], ◌∷◌, ◌++◌, length, drop, replicate, refl, sym, ap, subst, ◌∙◌, arith}
use Rattle.std.proofs.lemmas.List.{drop_all}
use Rattle.avc_units.specs.Reading.{zeros_of}
use Rattle.avc_units.specs.Units.{only_zeros, ends, Placed, HasUnitsFrom, HasUnits, AreUnits, IsNoStart, IsEmptyUnit, IsFault, HasFault, HasUnitsOrFault}
use Rattle.avc_units.specs.Scan.{unit_len, Step, found, step, step_from}
use Rattle.avc_units.specs.Scan.Step.{NoUnit, OneUnit, Fault}
use Rattle.avc_units.proofs.Cutting.{step-unit, step-is, start-is, none-zeros, zeros-split, zeros-start, drop-start, two-more, has-more, unit-behind, one_cutting}

-- ---- a fault, from its text

no_start_so : (z x : ℕ) (after : List ℕ) → x ≢ 0 → (x ≡ 1 → z < 2) → step_from z (x ∷ after) ≡ Fault z
no_start_so z zero after some start = absurd (some refl)
no_start_so zero (suc x) after some start = refl
no_start_so (suc zero) (suc x) after some start = refl
no_start_so (suc (suc z)) (suc zero) after some start = absurd (let h = start refl in omega arith)
no_start_so (suc (suc z)) (suc (suc x)) after some start = refl

behind-zeros : (t : List ℕ) (x : ℕ) (after : List ℕ) → drop (zeros_of t) t ≡ x ∷ after → x ≢ 0
behind-zeros [] x after e = absurd cc
behind-zeros (zero ∷ t) x after e = behind-zeros t x after e
behind-zeros (suc y ∷ t) x after e = let h : suc y ≡ x = cc in λ n. absurd (omega arith)

pub fault-first : (t : List ℕ) (x : ℕ) (after : List ℕ) → drop (zeros_of t) t ≡ x ∷ after → (x ≡ 1 → zeros_of t < 2) → step t ≡ Fault (zeros_of t)
fault-first t x after e start = rw e (no_start_so (zeros_of t) x after (behind-zeros t x after e) start)

zeros_in_front : (n x : ℕ) (after : List ℕ) → x ≢ 0 → (zeros_of (replicate n 0 ++ (x ∷ after)) ≡ n) × (drop n (replicate n 0 ++ (x ∷ after)) ≡ x ∷ after)
zeros_in_front n zero after some = absurd (some refl)
zeros_in_front zero (suc x) after some = (refl, refl)
zeros_in_front (suc n) (suc x) after some = let h = zeros_in_front n (suc x) after some in (ap suc h.0, h.1)

no_start_step : (t : List ℕ) (place : ℕ) → IsNoStart t place → step t ≡ Fault place
no_start_step t place h =
    let z = zeros_in_front place h.byte h.after h.some in
    let count : zeros_of t ≡ place = ap zeros_of h.text_is ∙ z.0 in
    let here : drop (zeros_of t) t ≡ h.byte ∷ h.after = ap (λ (k : ℕ). drop k t) count ∙ ap (drop place) h.text_is ∙ z.1 in
    fault-first t h.byte h.after here (λ e. let k = h.no_start e in omega arith) ∙ ap Fault count

ends-none : (t : List ℕ) → ends t ≡ true → unit_len t ≡ 0
unfolding unit_len
ends-none [] e = refl
ends-none (x ∷ xs) e = rw e refl

empty_step : (t : List ℕ) (place : ℕ) → IsEmptyUnit t place → step t ≡ Fault place
empty_step t place h =
    let text = replicate h.zeros 0 ++ (0 ∷ 0 ∷ 1 ∷ h.after) in
    let s : step text ≡ found (h.zeros + 3) (unit_len h.after) = rw (drop-start h.zeros (zeros_of text) h.after (zeros-start h.zeros h.after)) (start-is (zeros_of text) h.zeros h.after (zeros-start h.zeros h.after)) in
    ap step h.text_is ∙ s ∙ ap (found (h.zeros + 3)) (ends-none h.after h.none) ∙ ap Fault (sym h.place_is)

pub fault_step : (t : List ℕ) (place : ℕ) → IsFault t place → step t ≡ Fault place
fault_step t place (inl h) = no_start_step t place h
fault_step t place (inr h) = empty_step t place h

-- ---- the text, from a fault

none_here : (t : List ℕ) → unit_len t ≡ 0 → ends t ≡ true
none_here t e = subst (λ (k : ℕ). ends (drop k t) ≡ true) e (unit-behind t)

fault_from : (z f : ℕ) (rest : List ℕ) → step_from z rest ≡ Fault f
    → ((x : ℕ) × (after : List ℕ) × (rest ≡ x ∷ after) × (x ≡ 1 → z < 2) × (f ≡ z)) ⊎ ((n : ℕ) × (after : List ℕ) × (rest ≡ 1 ∷ after) × (z ≡ n + 2) × (ends after ≡ true) × (f ≡ n + 3))
fault_from z f [] h = absurd cc
fault_from zero f (x ∷ xs) h = let e : zero ≡ f = cc in inl (x, xs, refl, λ k. omega arith, sym e)
fault_from (suc zero) f (x ∷ xs) h = let e : suc zero ≡ f = cc in inl (x, xs, refl, λ k. omega arith, sym e)
fault_from (suc (suc z)) f (zero ∷ xs) h = let e : suc (suc z) ≡ f = cc in inl (0, xs, refl, λ k. absurd (omega arith), sym e)
fault_from (suc (suc z)) f (suc (suc x) ∷ xs) h = let e : suc (suc z) ≡ f = cc in inl (suc (suc x), xs, refl, λ k. absurd (omega arith), sym e)
fault_from (suc (suc z)) f (suc zero ∷ xs) h = go (unit_len xs) refl h
  where
    go : (n : ℕ) → n ≡ unit_len xs → found (suc (suc (suc z))) n ≡ Fault f
        → ((x : ℕ) × (after : List ℕ) × (1 ∷ xs ≡ x ∷ after) × (x ≡ 1 → suc (suc z) < 2) × (f ≡ suc (suc z))) ⊎ ((n : ℕ) × (after : List ℕ) × (1 ∷ xs ≡ 1 ∷ after) × (suc (suc z) ≡ n + 2) × (ends after ≡ true) × (f ≡ n + 3))
    go zero e h = let f_is : suc (suc (suc z)) ≡ f = cc in inr (z, xs, refl, omega arith, none_here xs (sym e), omega arith)
    go (suc n) e h = absurd cc

pub fault-is : (t : List ℕ) (place : ℕ) → step t ≡ Fault place → IsFault t place
fault-is t place h = go (fault_from (zeros_of t) place (drop (zeros_of t) t) h)
  where
    go : ((x : ℕ) × (after : List ℕ) × (drop (zeros_of t) t ≡ x ∷ after) × (x ≡ 1 → zeros_of t < 2) × (place ≡ zeros_of t)) ⊎ ((n : ℕ) × (after : List ℕ) × (drop (zeros_of t) t ≡ 1 ∷ after) × (zeros_of t ≡ n + 2) × (ends after ≡ true) × (place ≡ n + 3)) → IsFault t place
    go (inl k) = inl (record {
      byte = k.0;
      after = k.1;
      text_is = zeros-split t ∙ ap (λ (r : List ℕ). replicate (zeros_of t) 0 ++ r) k.2 ∙ ap (λ (n : ℕ). replicate n 0 ++ (k.0 ∷ k.1)) (sym k.4);
      some = behind-zeros t k.0 k.1 k.2;
      no_start = λ e. let l = k.3 e in let p = k.4 in omega arith;
    })
    go (inr k) = inr (record {
      zeros = k.0;
      after = k.1;
      text_is = zeros-split t ∙ ap (λ (r : List ℕ). replicate (zeros_of t) 0 ++ r) k.2 ∙ ap (λ (n : ℕ). replicate n 0 ++ (1 ∷ k.1)) k.3 ∙ two-more k.0 (1 ∷ k.1);
      none = k.4;
      place_is = k.5;
    })

-- ---- the whole file

zeros_step : (t : List ℕ) → only_zeros t ≡ true → step t ≡ NoUnit
zeros_step t h = rw (none_behind t h) (nothing (zeros_of t))
  where
    none_behind : (t : List ℕ) → only_zeros t ≡ true → drop (zeros_of t) t ≡ []
    none_behind [] h = refl
    none_behind (zero ∷ xs) h = none_behind xs h
    none_behind (suc x ∷ xs) h = absurd cc

    nothing : (z : ℕ) → step_from z [] ≡ NoUnit
    nothing zero = refl
    nothing (suc zero) = refl
    nothing (suc (suc z)) = refl

-- no unit comes next
abbrev Stops : List ℕ → Type 0
Stops text = (f n : ℕ) → step text ≡ OneUnit f n → ⊥

zeros_stop : (t : List ℕ) → only_zeros t ≡ true → Stops t
zeros_stop t h f n e = clash (sym (zeros_step t h) ∙ e)
  where
    clash : NoUnit ≡ OneUnit f n → ⊥
    clash h = absurd cc

fault_stops : (t : List ℕ) (place : ℕ) → IsFault t place → Stops t
fault_stops t place h f n e = clash (sym (fault_step t place h) ∙ e)
  where
    clash : Fault place ≡ OneUnit f n → ⊥
    clash h = absurd cc

-- the first units up to where no unit comes next all end there
same_end : (file : List ℕ) (place a b : ℕ) (us vs : List Placed) → HasUnitsFrom place file us a → HasUnitsFrom place file vs b → Stops (drop a file) → Stops (drop b file) → a ≡ b
same_end file place a b [] [] h k s t = sym h ∙ k
same_end file place a b [] (v ∷ vs) h k s t = absurd (s (k.0 + 3) (length v.bytes) (ap (λ (p : ℕ). step (drop p file)) (sym h) ∙ ap step k.2 ∙ step-unit k.0 v.bytes k.1 k.4 k.5))
same_end file place a b (u ∷ us) [] h k s t = absurd (t (h.0 + 3) (length u.bytes) (ap (λ (p : ℕ). step (drop p file)) (sym k) ∙ ap step h.2 ∙ step-unit h.0 u.bytes h.1 h.4 h.5))
same_end file place a b (u ∷ us) (v ∷ vs) h k s t =
    let e : OneUnit (h.0 + 3) (length u.bytes) ≡ OneUnit (k.0 + 3) (length v.bytes) = sym (step-unit h.0 u.bytes h.1 h.4 h.5) ∙ ap step (sym h.2 ∙ k.2) ∙ step-unit k.0 v.bytes k.1 k.4 k.5 in
    let n3 : h.0 + 3 ≡ k.0 + 3 = cc in
    let l : length u.bytes ≡ length v.bytes = cc in
    let p : v.from + length v.bytes ≡ u.from + length u.bytes = omega (arith, h.3, k.3, n3, l) in
    same_end file (u.from + length u.bytes) a b us vs h.6 (subst (λ (q : ℕ). HasUnitsFrom q file vs b) p k.6) s t

cases : (s : Step) → (s ≡ NoUnit) ⊎ (((f : ℕ) × (s ≡ Fault f)) ⊎ ((f n : ℕ) × (s ≡ OneUnit f n)))
cases NoUnit = inl refl
cases (Fault f) = inr (inl (f, refl))
cases (OneUnit f n) = inr (inr (f, n, refl))

abbrev ListOrFault : List ℕ → Type 0
ListOrFault file = ((us : List Placed) × AreUnits file us) ⊎ ((place : ℕ) × HasFault file place)

-- so many bytes are left at most
go_on : (m : ℕ) (file : List ℕ) (us : List Placed) (at : ℕ) → length file ≤ at + m → HasUnits file us at → ListOrFault file
go_on zero file us at le h = inl (us, (at, h, rw (drop_all at file (omega arith)) refl))
go_on (suc m) file us at le h = elim (cases (step (drop at file))) [
  | inl e ↦ inl (us, (at, h, none-zeros (drop at file) e))
  | inr (inl e) ↦ inr (at + e.0, record { units = us; end = at; behind = h; at = e.0; fault = fault-is (drop at file) e.0 e.1; place_is = refl })
  | inr (inr e) ↦ (let n = step-is (drop at file) e.0 e.1 e.2 in go_on m file (us ++ (record { from = at + e.0; bytes = n.bytes }) ∷ []) (at + e.0 + e.1) (let f = n.from_is in omega arith) (has-more file 0 at e.0 e.1 us n h))
]

fault_places : (file : List ℕ) (place other : ℕ) → HasFault file place → HasFault file other → place ≡ other
fault_places file place other h k =
    let e = same_end file 0 h.end k.end h.units k.units h.behind k.behind (fault_stops (drop h.end file) h.at h.fault) (fault_stops (drop k.end file) k.at k.fault) in
    let s : Fault h.at ≡ Fault k.at = sym (fault_step (drop h.end file) h.at h.fault) ∙ ap (λ (p : ℕ). step (drop p file)) e ∙ fault_step (drop k.end file) k.at k.fault in
    let at : h.at ≡ k.at = cc in
    omega (arith, h.place_is, k.place_is, e, at)

list_no_fault : (file : List ℕ) (us : List Placed) (place : ℕ) → AreUnits file us → HasFault file place → ⊥
list_no_fault file us place h k =
    let e = same_end file 0 h.0 k.end us k.units h.1 k.behind (zeros_stop (drop h.0 file) h.2) (fault_stops (drop k.end file) k.at k.fault) in
    let s : NoUnit ≡ Fault k.at = sym (zeros_step (drop h.0 file) h.2) ∙ ap (λ (p : ℕ). step (drop p file)) e ∙ fault_step (drop k.end file) k.at k.fault in
    absurd cc

pub units_or_fault : (file : List ℕ) → HasUnitsOrFault file
units_or_fault file = record {
  some = go_on (length file) file [] 0 (omega arith) refl;
  one_list = λ us vs h k. one_cutting file 0 h.0 k.0 us vs h.1 h.2 k.1 k.2;
  one_place = fault_places file;
  not_both = list_no_fault file;
}

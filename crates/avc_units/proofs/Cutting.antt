-- Reading from left to right finds the units, and no others.
use Rattle.std.proofs.Common.{◌≡◌, ◌≢◌, ℕ, zero, suc, ◌+◌, ◌<◌, ◌≤◌, Bool, true, false, ◌||◌, List, [], ◌∷◌, ◌++◌, length, take, drop, replicate, refl, sym, ap, subst, ◌∙◌, arith, inl, inr}
use Rattle.std.proofs.lemmas.Bool.{cases_Bool}
use Rattle.std.proofs.lemmas.List.{take-append-drop, length-take-le, take_at}
use Rattle.avc_units.proofs.Passing.{drop_more}
use Rattle.avc_units.specs.Units.{only_zeros, is_break, ends, last_of, IsUnit, Placed, HasUnitsFrom}
use Rattle.avc_units.specs.Reading.{zeros_of}
use Rattle.avc_units.specs.Scan.{unit_len, found, step, step_from}
use Rattle.avc_units.specs.Scan.Step.{NoUnit, OneUnit}

no : {A : Type 0} → true ≡ false → A
no h = absurd cc

-- ---- a unit is read whole

whole_rest : (x : ℕ) (xs : List ℕ) → ((n : ℕ) → is_break (drop n (x ∷ xs)) ≡ false) → (n : ℕ) → is_break (drop n xs) ≡ false
whole_rest x xs h n = h (suc n)

pub unit-read : (u after : List ℕ) → last_of u ≢ 0 → ((n : ℕ) → is_break (drop n u) ≡ false) → ends after ≡ true → unit_len (u ++ after) ≡ length u
unfolding unit_len
unit-read [] after l w e = absurd (l refl)
unit-read (suc x ∷ []) [] l w e = refl
unit-read (suc x ∷ []) (a ∷ after) l w e = rw e refl
unit-read (suc x ∷ y ∷ ys) after l w e = ap suc (unit-read (y ∷ ys) after l (whole_rest (suc x) (y ∷ ys) w) e)
unit-read (zero ∷ []) after l w e = absurd (l refl)
unit-read (zero ∷ suc y ∷ ys) after l w e = ap suc (unit-read (suc y ∷ ys) after l (whole_rest 0 (suc y ∷ ys) w) e)
unit-read (zero ∷ zero ∷ []) after l w e = absurd (l refl)
unit-read (zero ∷ zero ∷ zero ∷ zs) after l w e = no (w 0)
unit-read (zero ∷ zero ∷ suc zero ∷ zs) after l w e = no (w 0)
unit-read (zero ∷ zero ∷ suc (suc z) ∷ zs) after l w e = ap suc (unit-read (zero ∷ suc (suc z) ∷ zs) after l (whole_rest 0 (zero ∷ suc (suc z) ∷ zs) w) e)

-- ---- what is read is a unit

left_false : (a b : Bool) → (a || b) ≡ false → a ≡ false
left_false true b h = no h
left_false false b h = refl

pub unit-behind : (t : List ℕ) → ends (drop (unit_len t) t) ≡ true
unfolding unit_len
unit-behind [] = refl
unit-behind (x ∷ xs) = elim (cases_Bool (ends (x ∷ xs))) [
  | inl e ↦ rw e e
  | inr e ↦ rw e (unit-behind xs)
]

ends-zero : (xs : List ℕ) → ends xs ≡ true → ends (0 ∷ xs) ≡ true
ends-zero [] h = refl
ends-zero (suc x ∷ xs) h = no (sym h)
ends-zero (zero ∷ []) h = refl
ends-zero (zero ∷ zero ∷ xs) h = refl
ends-zero (zero ∷ suc zero ∷ xs) h = refl
ends-zero (zero ∷ suc (suc x) ∷ xs) h = no (sym h)

behind_last : (x : ℕ) (xs : List ℕ) (n : ℕ) → n ≡ unit_len xs → ends xs ≡ true → ends (x ∷ xs) ≡ false → x ≢ 0
behind_last zero xs n e b f = λ _. no (sym (ends-zero xs b) ∙ f)
behind_last (suc x) xs n e b f = λ h. absurd (omega arith)

pub unit-last : (t : List ℕ) → 0 < unit_len t → last_of (take (unit_len t) t) ≢ 0
unfolding unit_len
unit-last [] h = absurd (omega arith)
unit-last (x ∷ xs) h = elim (cases_Bool (ends (x ∷ xs))) [
  | inl e ↦ absurd (let k : 0 < 0 = rw e at h in omega arith)
  | inr e ↦ rw e (go x xs (unit_len xs) refl e (unit-last xs))
]
  where
    go : (x : ℕ) (xs : List ℕ) (n : ℕ) → n ≡ unit_len xs → ends (x ∷ xs) ≡ false → (0 < unit_len xs → last_of (take (unit_len xs) xs) ≢ 0) → last_of (x ∷ take n xs) ≢ 0
    go x xs zero e f p = behind_last x xs 0 e (let b = unit-behind xs in rw (← e) at b) f
    go x [] (suc n) e f p = absurd (omega arith)
    go x (y ∷ ys) (suc n) e f p = let r = p (omega arith) in rw (← e) at r

break-front : (x n : ℕ) (xs : List ℕ) → is_break (x ∷ xs) ≡ false → is_break (x ∷ take n xs) ≡ false
break-front (suc x) n xs h = refl
break-front zero zero xs h = refl
break-front zero (suc n) [] h = refl
break-front zero (suc n) (suc y ∷ ys) h = refl
break-front zero (suc zero) (zero ∷ ys) h = refl
break-front zero (suc (suc n)) (zero ∷ []) h = refl
break-front zero (suc (suc n)) (zero ∷ zero ∷ zs) h = no h
break-front zero (suc (suc n)) (zero ∷ suc zero ∷ zs) h = no h
break-front zero (suc (suc n)) (zero ∷ suc (suc z) ∷ zs) h = refl

break-nothing : (n : ℕ) → is_break (drop n []) ≡ false
break-nothing zero = refl
break-nothing (suc n) = refl

pub unit-whole : (t : List ℕ) (n : ℕ) → is_break (drop n (take (unit_len t) t)) ≡ false
unfolding unit_len
unit-whole [] n = break-nothing n
unit-whole (x ∷ xs) n = elim (cases_Bool (ends (x ∷ xs))) [
  | inl e ↦ rw e (break-nothing n)
  | inr e ↦ rw e (go x xs n e (unit-whole xs))
]
  where
    go : (x : ℕ) (xs : List ℕ) (n : ℕ) → ends (x ∷ xs) ≡ false → ((n : ℕ) → is_break (drop n (take (unit_len xs) xs)) ≡ false) → is_break (drop n (x ∷ take (unit_len xs) xs)) ≡ false
    go x xs zero e p = break-front x (unit_len xs) xs (left_false _ _ e)
    go x xs (suc n) e p = p n

-- ---- the next unit

pub zeros-start : (n : ℕ) (t : List ℕ) → zeros_of (replicate n 0 ++ (0 ∷ 0 ∷ 1 ∷ t)) ≡ n + 2
zeros-start zero t = refl
zeros-start (suc n) t = let h = zeros-start n t in omega arith

pub drop-start : (n k : ℕ) (t : List ℕ) → k ≡ n + 2 → drop k (replicate n 0 ++ (0 ∷ 0 ∷ 1 ∷ t)) ≡ 1 ∷ t
drop-start zero k t e = rw e refl
drop-start (suc n) zero t e = absurd (omega arith)
drop-start (suc n) (suc k) t e = drop-start n k t (omega arith)

pub start-is : (z n : ℕ) (t : List ℕ) → z ≡ n + 2 → step_from z (1 ∷ t) ≡ found (n + 3) (unit_len t)
start-is zero n t e = absurd (omega arith)
start-is (suc zero) n t e = absurd (omega arith)
start-is (suc (suc z)) n t e = ap (λ (k : ℕ). found k (unit_len t)) (omega arith)

pub found-some : (u n : ℕ) → 0 < n → found u n ≡ OneUnit u n
found-some u zero h = absurd (omega arith)
found-some u (suc n) h = refl

some-long : (u : List ℕ) → last_of u ≢ 0 → 0 < length u
some-long [] h = absurd (h refl)
some-long (x ∷ xs) h = omega arith

-- a unit behind zeros is the next one
pub step-unit : (n : ℕ) (u after : List ℕ) → IsUnit u → ends after ≡ true → step (replicate n 0 ++ (0 ∷ 0 ∷ 1 ∷ (u ++ after))) ≡ OneUnit (n + 3) (length u)
step-unit n u after h e =
    rw (drop-start n (zeros_of (replicate n 0 ++ (0 ∷ 0 ∷ 1 ∷ (u ++ after)))) (u ++ after) (zeros-start n (u ++ after)), start-is (zeros_of (replicate n 0 ++ (0 ∷ 0 ∷ 1 ∷ (u ++ after)))) n (u ++ after) (zeros-start n (u ++ after)), unit-read u after h.last h.whole e)
    (found-some (n + 3) (length u) (some-long u h.last))

pub zeros-split : (t : List ℕ) → t ≡ replicate (zeros_of t) 0 ++ drop (zeros_of t) t
zeros-split [] = refl
zeros-split (zero ∷ xs) = ap (λ (ys : List ℕ). 0 ∷ ys) (zeros-split xs)
zeros-split (suc x ∷ xs) = refl

record IsStart (z f k : ℕ) (rest : List ℕ) : Type 0 where
  pub zeros : ℕ
  pub more : List ℕ
  pub zeros_is : z ≡ zeros + 2
  pub rest_is : rest ≡ 1 ∷ more
  pub from_is : f ≡ zeros + 3
  pub len_is : k ≡ unit_len more
  pub some : 0 < k

start-of : (z f k : ℕ) (rest : List ℕ) → step_from z rest ≡ OneUnit f k → IsStart z f k rest
start-of z f k [] h = absurd cc
start-of zero f k (zero ∷ xs) h = absurd cc
start-of zero f k (suc x ∷ xs) h = absurd cc
start-of (suc zero) f k (zero ∷ xs) h = absurd cc
start-of (suc zero) f k (suc x ∷ xs) h = absurd cc
start-of (suc (suc z)) f k (zero ∷ xs) h = absurd cc
start-of (suc (suc z)) f k (suc (suc x) ∷ xs) h = absurd cc
start-of (suc (suc z)) f k (suc zero ∷ xs) h = go (unit_len xs) refl h
  where
    go : (n : ℕ) → n ≡ unit_len xs → found (suc (suc (suc z))) n ≡ OneUnit f k → IsStart (suc (suc z)) f k (1 ∷ xs)
    go zero e h = absurd cc
    go (suc n) e h =
        let a : suc (suc (suc z)) ≡ f = cc in
        let b : suc n ≡ k = cc in
        record { zeros = z; more = xs; zeros_is = omega arith; rest_is = refl; from_is = omega arith; len_is = sym b ∙ e; some = omega arith }

pub record IsNext (text : List ℕ) (f k : ℕ) : Type 0 where
  pub zeros : ℕ
  pub after : List ℕ
  pub bytes : List ℕ
  pub text_is : text ≡ replicate zeros 0 ++ (0 ∷ 0 ∷ 1 ∷ (bytes ++ after))
  pub from_is : f ≡ zeros + 3
  pub len_is : length bytes ≡ k
  pub one : IsUnit bytes
  pub behind : ends after ≡ true

pub two-more : (n : ℕ) (t : List ℕ) → replicate (n + 2) 0 ++ t ≡ replicate n 0 ++ (0 ∷ 0 ∷ t)
two-more zero t = refl
two-more (suc n) t = rw (suc_two n) (ap (λ (ys : List ℕ). 0 ∷ ys) (two-more n t))
  where
    suc_two : (n : ℕ) → suc n + 2 ≡ suc (n + 2)
    suc_two n = omega arith

unit-within : (t : List ℕ) → unit_len t ≤ length t
unfolding unit_len
unit-within [] = omega arith
unit-within (x ∷ xs) = elim (cases_Bool (ends (x ∷ xs))) [
  | inl e ↦ rw e (omega arith)
  | inr e ↦ rw e (let h = unit-within xs in omega arith)
]

-- what is read as the next unit is one
pub step-is : (text : List ℕ) (f k : ℕ) → step text ≡ OneUnit f k → IsNext text f k
step-is text f k h =
    let s = start-of (zeros_of text) f k (drop (zeros_of text) text) h in
    let split : text ≡ replicate (s.zeros + 2) 0 ++ (1 ∷ s.more) = zeros-split text ∙ ap (λ (n : ℕ). replicate n 0 ++ drop (zeros_of text) text) s.zeros_is ∙ ap (λ (t : List ℕ). replicate (s.zeros + 2) 0 ++ t) s.rest_is in
    let len = unit_len s.more in
    let some : 0 < unit_len s.more = rw (← s.len_is) s.some in
    record {
      zeros = s.zeros;
      after = drop len s.more;
      bytes = take len s.more;
      text_is = split ∙ two-more s.zeros (1 ∷ s.more) ∙ ap (λ (t : List ℕ). replicate s.zeros 0 ++ (0 ∷ 0 ∷ 1 ∷ t)) (sym (take-append-drop len s.more));
      from_is = s.from_is;
      len_is = length-take-le len s.more (unit-within s.more) ∙ sym s.len_is;
      one = record { last = unit-last s.more some; whole = unit-whole s.more };
      behind = unit-behind s.more;
    }

-- ---- lists of units

pub has-more : (file : List ℕ) (place at f k : ℕ) (us : List Placed) (h : IsNext (drop at file) f k) → HasUnitsFrom place file us at
    → HasUnitsFrom place file (us ++ (record { from = at + f; bytes = h.bytes }) ∷ []) (at + f + k)
has-more file place at f k [] h e = (h.zeros, h.after, ap (λ (p : ℕ). drop p file) e ∙ h.text_is, omega (arith, h.from_is, e), h.one, h.behind, ap (λ (n : ℕ). at + f + n) h.len_is)
has-more file place at f k (u ∷ us) h e = (e.0, e.1, e.2, e.3, e.4, e.5, has-more file (u.from + length u.bytes) at f k us h e.6)

one-not : (n : ℕ) (t : List ℕ) → only_zeros (replicate n 0 ++ (0 ∷ 0 ∷ 1 ∷ t)) ≡ false
one-not zero t = refl
one-not (suc n) t = one-not n t

pub none-zeros : (t : List ℕ) → step t ≡ NoUnit → only_zeros t ≡ true
none-zeros t h = rw (zeros-split t) (go (zeros_of t) (drop (zeros_of t) t) h)
  where
    zeros-only : (n : ℕ) → only_zeros (replicate n 0 ++ []) ≡ true
    zeros-only zero = refl
    zeros-only (suc n) = zeros-only n

    go : (z : ℕ) (rest : List ℕ) → step_from z rest ≡ NoUnit → only_zeros (replicate z 0 ++ rest) ≡ true
    go z [] h = zeros-only z
    go zero (zero ∷ xs) h = absurd cc
    go zero (suc x ∷ xs) h = absurd cc
    go (suc zero) (zero ∷ xs) h = absurd cc
    go (suc zero) (suc x ∷ xs) h = absurd cc
    go (suc (suc z)) (zero ∷ xs) h = absurd cc
    go (suc (suc z)) (suc (suc x) ∷ xs) h = absurd cc
    go (suc (suc z)) (suc zero ∷ xs) h = in_found (suc (suc (suc z))) (unit_len xs) h
      where
        in_found : {A : Type 0} (u n : ℕ) → found u n ≡ NoUnit → A
        in_found u zero h = absurd cc
        in_found u (suc n) h = absurd cc

same-front : (u v a b : List ℕ) → length u ≡ length v → u ++ a ≡ v ++ b → u ≡ v
same-front [] [] a b l e = refl
same-front [] (y ∷ v) a b l e = absurd (omega arith)
same-front (x ∷ u) [] a b l e = absurd (omega arith)
same-front (x ∷ u) (y ∷ v) a b l e =
    let h : x ≡ y = cc in
    let t : u ++ a ≡ v ++ b = cc in
    let r = same-front u v a b (omega arith) t in cc

same-behind : (n : ℕ) (s t : List ℕ) → replicate n 0 ++ s ≡ replicate n 0 ++ t → s ≡ t
same-behind zero s t e = e
same-behind (suc n) s t e = same-behind n s t (tail_is e)
  where
    tail_is : (0 ∷ (replicate n 0 ++ s)) ≡ (0 ∷ (replicate n 0 ++ t)) → replicate n 0 ++ s ≡ replicate n 0 ++ t
    tail_is e = cc

pub one_cutting : (file : List ℕ) (place a b : ℕ) (us vs : List Placed) → HasUnitsFrom place file us a → only_zeros (drop a file) ≡ true → HasUnitsFrom place file vs b → only_zeros (drop b file) ≡ true → us ≡ vs
one_cutting file place a b [] [] h z k y = refl
one_cutting file place a b [] (v ∷ vs) h z k y = no (sym z ∙ ap (λ (p : ℕ). only_zeros (drop p file)) (sym h) ∙ ap only_zeros k.2 ∙ one-not k.0 (v.bytes ++ k.1))
one_cutting file place a b (u ∷ us) [] h z k y = no (sym y ∙ ap (λ (p : ℕ). only_zeros (drop p file)) (sym k) ∙ ap only_zeros h.2 ∙ one-not h.0 (u.bytes ++ h.1))
one_cutting file place a b (u ∷ us) (v ∷ vs) h z k y =
    let s : OneUnit (h.0 + 3) (length u.bytes) ≡ OneUnit (k.0 + 3) (length v.bytes) = sym (step-unit h.0 u.bytes h.1 h.4 h.5) ∙ ap step (sym h.2 ∙ k.2) ∙ step-unit k.0 v.bytes k.1 k.4 k.5 in
    let n3 : h.0 + 3 ≡ k.0 + 3 = cc in
    let n : h.0 ≡ k.0 = omega arith in
    let l : length u.bytes ≡ length v.bytes = cc in
    let t : replicate h.0 0 ++ (0 ∷ 0 ∷ 1 ∷ (u.bytes ++ h.1)) ≡ replicate h.0 0 ++ (0 ∷ 0 ∷ 1 ∷ (v.bytes ++ k.1)) = sym h.2 ∙ k.2 ∙ ap (λ (m : ℕ). replicate m 0 ++ (0 ∷ 0 ∷ 1 ∷ (v.bytes ++ k.1))) (sym n) in
    let t2 = same-behind h.0 (0 ∷ 0 ∷ 1 ∷ (u.bytes ++ h.1)) (0 ∷ 0 ∷ 1 ∷ (v.bytes ++ k.1)) t in
    let bytes = same-front (0 ∷ 0 ∷ 1 ∷ u.bytes) (0 ∷ 0 ∷ 1 ∷ v.bytes) h.1 k.1 (omega arith) t2 in
    let same_bytes : u.bytes ≡ v.bytes = cc in
    let same_from : u.from ≡ v.from = omega (arith, h.3, k.3, n) in
    let p : v.from + length v.bytes ≡ u.from + length u.bytes = omega arith in
    let rest = one_cutting file (u.from + length u.bytes) a b us vs h.6 z (subst (λ (q : ℕ). HasUnitsFrom q file vs b) p k.6) y in
    cons_is u v us vs same_from same_bytes rest
  where
    cons_is : (u v : Placed) (us vs : List Placed) → u.from ≡ v.from → u.bytes ≡ v.bytes → us ≡ vs → u ∷ us ≡ v ∷ vs
    cons_is u v us vs p q r = λ i. (record { from = p i; bytes = q i }) ∷ r i

drop-behind : (n k : ℕ) (t : List ℕ) → k ≡ n + 3 → drop k (replicate n 0 ++ (0 ∷ 0 ∷ 1 ∷ t)) ≡ t
drop-behind zero k t e = rw e refl
drop-behind (suc n) zero t e = absurd (omega arith)
drop-behind (suc n) (suc k) t e = drop-behind n k t (omega arith)

-- the bytes of the next unit
pub next-bytes : (file : List ℕ) (at f k : ℕ) (h : IsNext (drop at file) f k) → h.bytes ≡ take k (drop (at + f) file)
next-bytes file at f k h =
    let rest : drop (at + f) file ≡ h.bytes ++ h.after = sym (drop_more at f file) ∙ ap (drop f) h.text_is ∙ drop-behind h.zeros f (h.bytes ++ h.after) h.from_is in
    sym (ap (take k) rest ∙ take_at h.bytes h.after k h.len_is)

-- One byte further in a unit.
use Rattle.std.proofs.Common.{◌≡◌, ℕ, zero, suc, ◌+◌, ◌<◌, ◌≤◌, List, [], ◌∷◌, ◌++◌, length, drop, get_or, refl, sym, ap, ◌∙◌, arith, rules}
use Rattle.std.proofs.lemmas.List.{drop_more, same_lists, places}
use Rattle.avc_units.specs.Reading.{zeros_of}
use Rattle.avc_units.specs.Scan.{unit_len}
use Rattle.avc_units.specs.Scan.{left_of}

pub left-byte : (z x : ℕ) (t : List ℕ) → z ≤ 2 → (z ≡ 2 → 2 ≤ x) → 0 < x → left_of z (x ∷ t) ≡ z + 1 + left_of 0 t
unfolding unit_len
left-byte z zero t few two some = absurd (omega arith)
left-byte zero (suc n) t few two some = omega arith
left-byte (suc zero) (suc n) t few two some = omega arith
left-byte (suc (suc zero)) (suc zero) t few two some = let h = two refl in absurd (omega arith)
left-byte (suc (suc zero)) (suc (suc n)) t few two some = omega arith
left-byte (suc (suc (suc z))) (suc n) t few two some = absurd (omega arith)

pub left-zero : (z : ℕ) (t : List ℕ) → z < 2 → left_of z (0 ∷ t) ≡ left_of (z + 1) t
left-zero zero t h = refl
left-zero (suc zero) t h = refl
left-zero (suc (suc z)) t h = absurd (omega arith)

pub left-break : (x : ℕ) (t : List ℕ) → x < 2 → left_of 2 (x ∷ t) ≡ 0
unfolding unit_len
left-break zero t h = refl
left-break (suc zero) t h = refl
left-break (suc (suc x)) t h = absurd (omega arith)

pub left-end : (z : ℕ) → z ≤ 2 → left_of z [] ≡ 0
unfolding unit_len
left-end zero h = refl
left-end (suc zero) h = refl
left-end (suc (suc zero)) h = refl
left-end (suc (suc (suc z))) h = absurd (omega arith)

pub zeros-other : (x : ℕ) (t : List ℕ) → 0 < x → zeros_of (x ∷ t) ≡ 0
zeros-other zero t h = absurd (omega arith)
zeros-other (suc x) t h = refl

three : (a b c : ℕ) (t : List ℕ) → 1 < c → unit_len (a ∷ b ∷ c ∷ t) ≡ 3 + unit_len t
unfolding unit_len
three a b zero t h = absurd (omega arith)
three a b (suc zero) t h = absurd (omega arith)
three zero zero (suc (suc c)) t h = omega arith
three zero (suc b) (suc (suc c)) t h = omega arith
three (suc a) zero (suc (suc c)) t h = omega arith
three (suc a) (suc b) (suc (suc c)) t h = omega arith

one : (a b : ℕ) (t : List ℕ) → (a ≡ 0 → b ≡ 0 → ⊥) → unit_len (a ∷ b ∷ t) ≡ 1 + unit_len (b ∷ t)
unfolding unit_len
one zero zero t h = absurd (h refl refl)
one zero (suc b) t h = omega arith
one (suc a) b t h = omega arith

further : (at n : ℕ) (b : List ℕ) → drop n (drop at b) ≡ drop (at + n) b
further at n b = same_lists _ _ (search (rules, places)) (λ k d q. grind (arith, places))

-- three bytes stand behind a place
front : (piece : List ℕ) (at : ℕ) → at + 2 < length piece → drop at piece ≡ get_or piece at 0 ∷ get_or piece (at + 1) 0 ∷ get_or piece (at + 2) 0 ∷ drop (at + 3) piece
front piece at h = grind (arith, drop_more)

pub three_on : (piece rest : List ℕ) (at : ℕ) → at + 2 < length piece → 1 < get_or piece (at + 2) 0 → left_of 0 (drop at piece ++ rest) ≡ 3 + left_of 0 (drop (at + 3) piece ++ rest)
three_on piece rest at h c = rw (front piece at h) (three (get_or piece at 0) (get_or piece (at + 1) 0) (get_or piece (at + 2) 0) (drop (at + 3) piece ++ rest) c)

pub one_on : (piece rest : List ℕ) (at : ℕ) → at + 2 < length piece → (get_or piece at 0 ≡ 0 → get_or piece (at + 1) 0 ≡ 0 → ⊥) → left_of 0 (drop at piece ++ rest) ≡ 1 + left_of 0 (drop (at + 1) piece ++ rest)
one_on piece rest at h n =
    let f = front piece at h in
    let next : drop (at + 1) piece ≡ get_or piece (at + 1) 0 ∷ get_or piece (at + 2) 0 ∷ drop (at + 3) piece = sym (further at 1 piece) ∙ ap (drop 1) f in
    rw (f, next) (one (get_or piece at 0) (get_or piece (at + 1) 0) (get_or piece (at + 2) 0 ∷ (drop (at + 3) piece ++ rest)) n)

none : (a b c : ℕ) (t : List ℕ) → a ≡ 0 → b ≡ 0 → c < 2 → unit_len (a ∷ b ∷ c ∷ t) ≡ 0
unfolding unit_len
none zero zero zero t e f h = refl
none zero zero (suc zero) t e f h = refl
none a b (suc (suc c)) t e f h = absurd (omega arith)
none (suc a) b c t e f h = absurd (omega arith)
none zero (suc b) c t e f h = absurd (omega arith)

-- two zeros and a byte below 2 end the unit
pub none_on : (piece rest : List ℕ) (at : ℕ) → at + 2 < length piece → get_or piece at 0 ≡ 0 → get_or piece (at + 1) 0 ≡ 0 → get_or piece (at + 2) 0 < 2 → left_of 0 (drop at piece ++ rest) ≡ 0
none_on piece rest at h a b c = rw (front piece at h) (none (get_or piece at 0) (get_or piece (at + 1) 0) (get_or piece (at + 2) 0) (drop (at + 3) piece ++ rest) a b c)

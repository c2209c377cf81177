-- Nothing is wanted before the first and behind the last that is.
use Rattle.std.proofs.Common.{◌≡◌, ℕ, zero, suc, ◌+◌, ◌-◌, ◌<◌, ◌≤◌, Bool, true, false, cond, ◌||◌, List, [], ◌∷◌, ◌++◌, take, drop, refl, sym, ap, ◌∙◌, arith, true≢false, subst, append_assoc, add-one}
use Rattle.std.specs.List.{AllByRecursion, list_any}
use Rattle.std.proofs.lemmas.List.{take-append-drop}
use Rattle.std.proofs.lemmas.List.Folds.{drop_split}
use Rattle.cut_op.specs.Needed.{before_first, through_last, first_kept, kept}

abbrev pub None : {A : Type 0} → (A → Bool) → List A → Type 0
None p fs = AllByRecursion (λ f. p f ≡ false) fs

pub or-false : (a b : Bool) → (a || b) ≡ false → (a ≡ false) × (b ≡ false)
or-false false false h = (refl, refl)
or-false false true h = absurd (true≢false h)
or-false true b h = absurd (true≢false h)

pub none_of : {A : Type 0} (p : A → Bool) (fs : List A) → list_any p fs ≡ false → None p fs
none_of p [] h = tt
none_of p (f ∷ fs) h = let q = or-false (p f) (list_any p fs) h in (q.0, none_of p fs q.1)

-- fewer than those before the first
few : {A : Type 0} (p : A → Bool) (fs : List A) (n : ℕ) → n ≤ before_first p fs → None p (take n fs)
few p [] zero le = tt
few p [] (suc n) le = tt
few p (f ∷ fs) zero le = tt
few p (f ∷ fs) (suc n) le = by (p f) refl (few p fs n) le
  where
    by : (b : Bool) → p f ≡ b → (n ≤ before_first p fs → None p (take n fs)) → suc n ≤ cond b 0 (before_first p fs + 1) → (p f ≡ false) × None p (take n fs)
    by true h rest le = absurd (omega arith)
    by false h rest le = (h, rest (omega arith))

pub through-most : {A : Type 0} (p : A → Bool) (fs : List A) (n : ℕ) → through_last p (take n fs) ≤ n
through-most p [] zero = omega arith
through-most p [] (suc n) = omega arith
through-most p (f ∷ fs) zero = omega arith
through-most p (f ∷ fs) (suc n) = by (list_any p (f ∷ take n fs)) (through-most p fs n)
  where
    by : (b : Bool) → through_last p (take n fs) ≤ n → cond b (through_last p (take n fs) + 1) 0 ≤ suc n
    by true h = omega arith
    by false h = omega arith

pub front : {A : Type 0} (q p : A → Bool) (fs : List A) → None p (take (first_kept q p fs) fs)
front q p fs = few p fs (first_kept q p fs) (omega (arith, through-most q fs (before_first p fs + 1)))

pub behind : {A : Type 0} (p : A → Bool) (fs : List A) → None p (drop (through_last p fs) fs)
behind p [] = tt
behind p (f ∷ fs) = by (behind p fs) (list_any p (f ∷ fs)) refl
  where
    by : None p (drop (through_last p fs) fs) → (b : Bool) → list_any p (f ∷ fs) ≡ b → None p (drop (cond b (through_last p fs + 1) 0) (f ∷ fs))
    by rest true h = subst (λ (n : ℕ). None p (drop n (f ∷ fs))) (sym (add-one (through_last p fs))) rest
    by rest false h = none_of p (f ∷ fs) h

-- the first that is so comes before the end of the last
pub first-last : {A : Type 0} (p : A → Bool) (fs : List A) → list_any p fs ≡ true → before_first p fs < through_last p fs
first-last p [] h = absurd (true≢false (sym h))
first-last p (f ∷ fs) h = rw h (by (first-last p fs) (p f) h)
  where
    by : (list_any p fs ≡ true → before_first p fs < through_last p fs) → (b : Bool) → (b || list_any p fs) ≡ true → cond b 0 (before_first p fs + 1) < through_last p fs + 1
    by rest true h = omega arith
    by rest false h = let r = rest h in omega (arith, r)

pub split : {A : Type 0} (q p : A → Bool) (fs : List A) → list_any p fs ≡ true → fs ≡ take (first_kept q p fs) fs ++ kept q p fs ++ drop (through_last p fs) fs
split q p fs h =
    let low = through-most q fs (before_first p fs + 1) in
    let high = first-last p fs h in
    sym (take-append-drop (first_kept q p fs) fs)
    ∙ (ap (λ (gs : List _). take (first_kept q p fs) fs ++ gs) (drop_split fs (first_kept q p fs) (through_last p fs) (omega arith))
    ∙ sym (append_assoc (take (first_kept q p fs) fs) (kept q p fs) (drop (through_last p fs) fs)))

-- none needed, none kept
pub none-through : {A : Type 0} (p : A → Bool) (fs : List A) → list_any p fs ≡ false → through_last p fs ≡ 0
none-through p [] h = refl
none-through p (f ∷ fs) h = rw h refl

pub none-kept : {A : Type 0} (q p : A → Bool) (fs : List A) → list_any p fs ≡ false → kept q p fs ≡ []
none-kept q p fs h =
    let nothing : 0 - first_kept q p fs ≡ 0 = omega arith in
    rw (none-through p fs h, nothing) refl

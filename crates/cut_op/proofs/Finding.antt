-- What is found in samples one after another is what the first and the last needed one say.
use Rattle.std.proofs.Common.{◌≡◌, ℕ, zero, suc, ◌+◌, ◌-◌, ◌<◌, ◌≤◌, Bool, true, false, cond, not, ◌||◌, ◌&&◌, List, [], ◌∷◌, ◌++◌, length, take, min, refl, sym, ap, ◌∙◌, arith, true≢false, append_assoc, subst}
use Rattle.std.specs.List.{list_any, range_with_len}
use Rattle.std.proofs.lemmas.List.{append-nil, take-append-le, take_all}
use Rattle.cut_op.specs.declared.kept.Found.{Found}
use Rattle.cut_op.specs.Needed.{before_first, through_last, first_kept}
use Rattle.mp_clip.specs.declared.touching.Span.{Span}
use Rattle.mp_movie.specs.Placed.{PlacedTrack}
use Rattle.cut_op.specs.Found.{AreKept, found_next, is_marked, is_touched, places}
use Rattle.cut_op.proofs.Keeping.{first-last, none-through, through-most}

any-one : {A : Type 0} (p : A → Bool) (xs : List A) (x : A) → list_any p (xs ++ x ∷ []) ≡ (list_any p xs || p x)
any-one p [] x = by (p x)
  where
    by : (b : Bool) → (b || false) ≡ (false || b)
    by true = refl
    by false = refl
any-one p (y ∷ xs) x = by (p y) (any-one p xs x)
  where
    by : (b : Bool) → list_any p (xs ++ x ∷ []) ≡ (list_any p xs || p x) → (b || list_any p (xs ++ x ∷ [])) ≡ ((b || list_any p xs) || p x)
    by true h = refl
    by false h = h

through-one : {A : Type 0} (p : A → Bool) (xs : List A) (x : A) → through_last p (xs ++ x ∷ []) ≡ cond (p x) (length xs + 1) (through_last p xs)
through-one p [] x = by (p x)
  where
    by : (b : Bool) → cond (b || false) (0 + 1) 0 ≡ cond b (0 + 1) 0
    by true = refl
    by false = refl
through-one p (y ∷ xs) x = rw (any-one p xs x, through-one p xs x) (by (p y) (p x) (list_any p xs) refl)
  where
    by : (a b any : Bool) → list_any p xs ≡ any → cond (a || (any || b)) (cond b (length xs + 1) (through_last p xs) + 1) 0 ≡ cond b (suc (length xs) + 1) (cond (a || any) (through_last p xs + 1) 0)
    by true true any is = omega arith
    by true false any is = refl
    by false true true is = omega arith
    by false true false is = omega arith
    by false false true is = refl
    by false false false is = refl

-- where one is so, one more changes nothing of the first
before-same : {A : Type 0} (p : A → Bool) (xs : List A) (x : A) → list_any p xs ≡ true → before_first p (xs ++ x ∷ []) ≡ before_first p xs
before-same p [] x h = absurd (true≢false (sym h))
before-same p (y ∷ xs) x h = by (p y) h (before-same p xs x)
  where
    by : (b : Bool) → (b || list_any p xs) ≡ true → (list_any p xs ≡ true → before_first p (xs ++ x ∷ []) ≡ before_first p xs) → cond b 0 (before_first p (xs ++ x ∷ []) + 1) ≡ cond b 0 (before_first p xs + 1)
    by true h rest = refl
    by false h rest = ap (λ (n : ℕ). n + 1) (rest h)

before-inside : {A : Type 0} (p : A → Bool) (xs : List A) → list_any p xs ≡ true → before_first p xs < length xs
before-inside p [] h = absurd (true≢false (sym h))
before-inside p (y ∷ xs) h = by (p y) h (before-inside p xs)
  where
    by : (b : Bool) → (b || list_any p xs) ≡ true → (list_any p xs ≡ true → before_first p xs < length xs) → cond b 0 (before_first p xs + 1) < suc (length xs)
    by true h rest = omega arith
    by false h rest = let r = rest h in omega (arith, r)

-- where none is so, all stand before the first
before-all : {A : Type 0} (p : A → Bool) (xs ys : List A) → list_any p xs ≡ false → length xs ≤ before_first p (xs ++ ys)
before-all p [] ys h = omega arith
before-all p (y ∷ xs) ys h = by (p y) h (before-all p xs ys)
  where
    by : (b : Bool) → (b || list_any p xs) ≡ false → (list_any p xs ≡ false → length xs ≤ before_first p (xs ++ ys)) → suc (length xs) ≤ cond b 0 (before_first p (xs ++ ys) + 1)
    by true h rest = absurd (true≢false h)
    by false h rest = let r = rest h in omega (arith, r)

length-one : {A : Type 0} (xs : List A) (x : A) → length (xs ++ x ∷ []) ≡ length xs + 1
length-one [] x = refl
length-one (y ∷ xs) x = let rest = length-one xs x in omega (arith, rest)

first-one : {A : Type 0} (m w : A → Bool) (xs : List A) (x : A) → first_kept m w (xs ++ x ∷ []) ≡ cond (m x && not (list_any w xs)) (length xs) (first_kept m w xs)
first-one m w xs x = by (list_any w xs) refl
  where
    by : (any : Bool) → list_any w xs ≡ any → first_kept m w (xs ++ x ∷ []) ≡ cond (m x && not any) (length xs) (first_kept m w xs)
    by true is =
        let inside = before-inside w xs is in
        rw (before-same w xs x is, take-append-le (before_first w xs + 1) xs (x ∷ []) (omega (arith, inside))) (none (m x))
      where
        none : (b : Bool) → first_kept m w xs ≡ cond (b && false) (length xs) (first_kept m w xs)
        none true = refl
        none false = refl
    by false is =
        let here = before-all w xs [] is in
        let more = before-all w xs (x ∷ []) is in
        rw (take_all (before_first w (xs ++ x ∷ []) + 1) (xs ++ x ∷ []) (omega (arith, more, length-one xs x)), through-one m xs x, take_all (before_first w xs + 1) xs (omega (arith, subst (λ (ys : List _). length xs ≤ before_first w ys) (append-nil xs) here)))
        (last (m x))
      where
        last : (b : Bool) → cond b (length xs + 1) (through_last m xs) - 1 ≡ cond (b && true) (length xs) (through_last m xs - 1)
        last true = omega arith
        last false = refl

-- what is found in so many samples
pub record AreFound (is_marked is_wanted : ℕ → Bool) (count : ℕ) (found : Found) : Type 0 where
  pub needed : found.needed ≡ list_any is_wanted (range_with_len 0 count)
  pub from : found.from ≡ first_kept is_marked is_wanted (range_with_len 0 count)
  pub to : found.to ≡ through_last is_wanted (range_with_len 0 count)

range-more : (a n : ℕ) → range_with_len a (suc n) ≡ range_with_len a n ++ (a + n) ∷ []
range-more a zero = let here : a ≡ a + 0 = omega arith in ap (λ (x : ℕ). x ∷ []) here
range-more a (suc n) =
    let there : a + 1 + n ≡ a + suc n = omega arith in
    ap (λ (xs : List ℕ). a ∷ xs) (range-more (a + 1) n ∙ ap (λ (x : ℕ). range_with_len (a + 1) n ++ x ∷ []) there)

length-range : (a n : ℕ) → length (range_with_len a n) ≡ n
length-range a zero = refl
length-range a (suc n) = ap (λ (x : ℕ). suc x) (length-range (a + 1) n)

pub nothing_found : (m w : ℕ → Bool) → AreFound m w 0 (record { needed = false; from = 0; to = 0 })
nothing_found m w = record { needed = refl; from = refl; to = refl }

pub one_found : (m w : ℕ → Bool) (n : ℕ) (found : Found) (sync needed : Bool) → sync ≡ m n → needed ≡ w n → AreFound m w n found → AreFound m w (suc n) (found_next found n sync needed)
one_found m w n found sync needed sync_is needed_is h =
    let places = range_with_len 0 n in
    let more : range_with_len 0 (suc n) ≡ places ++ n ∷ [] = let same : 0 + n ≡ n = omega arith in range-more 0 n ∙ ap (λ (x : ℕ). range_with_len 0 n ++ x ∷ []) same in
    let len : length places ≡ n = length-range 0 n in
    record {
      needed = ap (λ (b : Bool). b || needed) h.needed ∙ (ap (λ (b : Bool). list_any w places || b) needed_is ∙ sym (ap (list_any w) more ∙ any-one w places n));
      from =
          ap (λ (b : Bool). cond (b && not found.needed) n found.from) sync_is
          ∙ (ap (λ (b : Bool). cond (m n && not b) n found.from) h.needed
          ∙ (ap (λ (x : ℕ). cond (m n && not (list_any w places)) n x) h.from
          ∙ sym (ap (first_kept m w) more ∙ (first-one m w places n ∙ ap (λ (x : ℕ). cond (m n && not (list_any w places)) x (first_kept m w places)) len))));
      to =
          ap (λ (b : Bool). cond b (n + 1) found.to) needed_is
          ∙ (ap (λ (x : ℕ). cond (w n) (n + 1) x) h.to
          ∙ sym (ap (through_last w) more ∙ (through-one w places n ∙ ap (λ (x : ℕ). cond (w n) (x + 1) (through_last w places)) len)));
    }

first-before : (m w : ℕ → Bool) (places : List ℕ) → list_any w places ≡ true → first_kept m w places < through_last w places
first-before m w places any =
    let low = through-most m places (before_first w places + 1) in
    let high = first-last w places any in
    omega (arith, low, high)

-- where none is needed none is kept
pub all_found : (m w : ℕ → Bool) (n : ℕ) (found : Found) → AreFound m w n found
    → (cond found.needed found.to 0 ≡ through_last w (range_with_len 0 n)) × (cond found.needed found.from 0 ≡ min (first_kept m w (range_with_len 0 n)) (through_last w (range_with_len 0 n)))
all_found m w n found h = by found.needed refl
  where
    by : (b : Bool) → found.needed ≡ b
        → (cond b found.to 0 ≡ through_last w (range_with_len 0 n)) × (cond b found.from 0 ≡ min (first_kept m w (range_with_len 0 n)) (through_last w (range_with_len 0 n)))
    by true is =
        let any : list_any w (range_with_len 0 n) ≡ true = sym h.needed ∙ is in
        let low = first-before m w (range_with_len 0 n) any in
        let least : first_kept m w (range_with_len 0 n) ≡ min (first_kept m w (range_with_len 0 n)) (through_last w (range_with_len 0 n)) = omega (arith, low) in
        (h.to, h.from ∙ least)
    by false is =
        let none = none-through w (range_with_len 0 n) (sym h.needed ∙ is) in
        let least : 0 ≡ min (first_kept m w (range_with_len 0 n)) (through_last w (range_with_len 0 n)) = omega (arith, none) in
        (sym none, least)

through-length : {A : Type 0} (p : A → Bool) (xs : List A) → through_last p xs ≤ length xs
through-length p [] = omega arith
through-length p (x ∷ xs) = by (list_any p (x ∷ xs)) (through-length p xs)
  where
    by : (b : Bool) → through_last p xs ≤ length xs → cond b (through_last p xs + 1) 0 ≤ suc (length xs)
    by true h = omega (arith, h)
    by false h = omega arith

-- all samples are searched
pub all_are_kept : (spans : List Span) (track : PlacedTrack) (n from to : ℕ) (found : Found) → n ≡ length track.deltas → AreFound (is_marked track) (is_touched spans track) n found → from ≡ cond found.needed found.from 0 → to ≡ cond found.needed found.to 0 → AreKept spans track from to
all_are_kept spans track n from to found all is from_is to_is =
    let both = all_found (is_marked track) (is_touched spans track) n found is in
    let high : to ≡ through_last (is_touched spans track) (places track) = to_is ∙ (both.0 ∙ ap (λ (k : ℕ). through_last (is_touched spans track) (range_with_len 0 k)) all) in
    let low = from_is ∙ (both.1 ∙ ap (λ (k : ℕ). min (first_kept (is_marked track) (is_touched spans track) (range_with_len 0 k)) (through_last (is_touched spans track) (range_with_len 0 k))) all) in
    let most = through-length (is_touched spans track) (places track) in
    let long = length-range 0 (length track.deltas) in
    record {
      to_is = high;
      from_is = low ∙ ap (λ (k : ℕ). min (first_kept (is_marked track) (is_touched spans track) (places track)) k) (sym high);
      inside = omega (arith, high, most, long);
    }

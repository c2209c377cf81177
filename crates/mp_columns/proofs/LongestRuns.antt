-- A run is longest where another item follows, or none, and longest runs follow one another.
use Rattle.std.proofs.Common.{◌≡◌, ℕ, zero, suc, ◌+◌, ◌-◌, ◌<◌, ◌≤◌, Bool, true, false, cond, List, [], ◌∷◌, ◌++◌, length, replicate, take, drop, get_or, ℤ, pos, w64, of_z, to_z, refl, sym, ap, ◌∙◌, append_assoc, arith, rules}
use Rattle.std.specs.Prelude.{FitsSigned}
use Rattle.std.specs.Ordering.{int_eq}
use Rattle.std.proofs.lemmas.Bool.Decides.{Decides-int_eq}
use Rattle.std.proofs.lemmas.Int.{to_z-of_z}
use Rattle.std.proofs.lemmas.List.{drop_more, length-replicate, replicate_more, take_at}
use Rattle.std.proofs.Math.Seq.{take-add}
use Rattle.mp_columns.specs.declared.run.Run.{Run}
use Rattle.mp_columns.specs.Stretch.{Stretch, items_of, in_front}
use Rattle.mp_columns.specs.Runs.{IsLongestRun, runs, stretch_of}

-- another item follows, or none
abbrev pub Differs : ℤ → List ℤ → Type 0
Differs x [] = Unit {0}
Differs x (y ∷ ys) = x ≡ y → ⊥

-- the first stretch begins with the first item
first_stretch : (y : ℤ) (ys : List ℤ) → (others : List ℤ) × (rest : List (Stretch ℤ)) × (runs (y ∷ ys) ≡ record { first = y; others = others } ∷ rest)
first_stretch y ys = go (runs ys)
  where
    go : (found : List (Stretch ℤ)) → (others : List ℤ) × (rest : List (Stretch ℤ)) × (in_front int_eq y found ≡ record { first = y; others = others } ∷ rest)
    go [] = ([], [], refl)
    go (next ∷ rest) = by (int_eq y next.first)
      where
        by : (b : Bool) → (others : List ℤ) × (left : List (Stretch ℤ)) × (cond b (record { first = y; others = items_of next } ∷ rest) (record { first = y; others = [] } ∷ next ∷ rest) ≡ record { first = y; others = others } ∷ left)
        by true = (items_of next, rest, refl)
        by false = ([], next ∷ rest, refl)

pub runs-copies : (n : ℕ) (x : ℤ) (ys : List ℤ) → Differs x ys → runs (replicate (suc n) x ++ ys) ≡ record { first = x; others = replicate n x } ∷ runs ys
runs-copies zero x [] other = refl
runs-copies zero x (y ∷ ys) other =
    let f = first_stretch y ys in
    let told : int_eq x y ≡ false = search (rules, Decides-int_eq x y) in
    ap (in_front int_eq x) f.2 ∙ (rw told refl ∙ ap (λ (found : List (Stretch ℤ)). record { first = x; others = [] } ∷ found) (sym f.2))
runs-copies (suc n) x ys other =
    let same : int_eq x x ≡ true = search (rules, Decides-int_eq x x) in
    ap (in_front int_eq x) (runs-copies n x ys other) ∙ rw same refl

other_follows : (xs : List ℤ) (to : ℕ) (x : ℤ) → (to < length xs → get_or xs to (pos 0) ≡ x → ⊥) → Differs x (drop to xs)
other_follows [] zero x ne = tt
other_follows [] (suc to) x ne = tt
other_follows (y ∷ ys) zero x ne = λ e. ne (omega arith) (sym e)
other_follows (y ∷ ys) (suc to) x ne = other_follows ys to x (λ lt. ne (omega (arith, lt)))

-- it is the first of the longest runs of what is left
pub longest_is_first : (xs : List ℤ) (from to : ℕ) (run : Run) → IsLongestRun xs from to run → runs (drop from xs) ≡ stretch_of run ∷ runs (drop to xs)
longest_is_first xs from to run is =
    let some = is.some in
    let count : run.count ≡ suc (run.count - 1) = omega arith in
    ap runs (is.equal ∙ ap (λ (k : ℕ). replicate k run.value ++ drop to xs) count) ∙ runs-copies (run.count - 1) run.value (drop to xs) (other_follows xs to run.value is.other)

-- the items up to its end are those before it, and its own
pub run_taken : (xs : List ℤ) (from to : ℕ) (run : Run) → IsLongestRun xs from to run → take to xs ≡ take from xs ++ replicate run.count run.value
run_taken xs from to run is =
    ap (λ (n : ℕ). take n xs) is.end
    ∙ (take-add from run.count xs
    ∙ ap (λ (ys : List ℤ). take from xs ++ ys) (ap (take run.count) is.equal ∙ take_at (replicate run.count run.value) (drop to xs) run.count (length-replicate run.count run.value)))

-- ---- the walk over one run

-- items are told from one another by their 64 bits
pub same_items : (x y : ℤ) → FitsSigned w64 x → FitsSigned w64 y → of_z w64 x ≡ of_z w64 y → x ≡ y
same_items x y fx fy e = sym (to_z-of_z w64 x fx) ∙ (ap (to_z w64) e ∙ to_z-of_z w64 y fy)

-- the items from `from` up to `to` are equal
pub record IsAlike (xs : List ℤ) (from to : ℕ) : Type 0 where
  pub some : from < to
  pub inside : to ≤ length xs
  pub equal : drop from xs ≡ replicate (to - from) (get_or xs from (pos 0)) ++ drop to xs

pub one_is_alike : (xs : List ℤ) (from : ℕ) → from < length xs → IsAlike xs from (from + 1)
one_is_alike xs from lt =
    let one : from + 1 - from ≡ 1 = omega arith in
    record { some = omega arith; inside = omega arith; equal = rw one (drop_more xs from (pos 0) lt) }

pub more_is_alike : (xs : List ℤ) (from to : ℕ) → IsAlike xs from to → to < length xs → get_or xs to (pos 0) ≡ get_or xs from (pos 0) → IsAlike xs from (to + 1)
more_is_alike xs from to is lt same =
    let some = is.some in
    let x = get_or xs from (pos 0) in
    let next : drop to xs ≡ x ∷ drop (to + 1) xs = drop_more xs to (pos 0) lt ∙ ap (λ (y : ℤ). y ∷ drop (to + 1) xs) same in
    let longer : to + 1 - from ≡ to - from + 1 = omega arith in
    record {
      some = omega arith;
      inside = omega arith;
      equal = is.equal ∙ rw (next, longer, ← replicate_more (to - from) x) (sym (append_assoc (replicate (to - from) x) (x ∷ []) (drop (to + 1) xs)));
    }

ends : (xs : List ℤ) (from to : ℕ) (value : ℤ) → IsAlike xs from to → value ≡ get_or xs from (pos 0) → (to < length xs → get_or xs to (pos 0) ≡ value → ⊥)
    → IsLongestRun xs from (from + (to - from)) (record { value = value; count = to - from })
ends xs from to value is valued other =
    let some = is.some in
    let inside = is.inside in
    let end : from + (to - from) ≡ to = omega arith in
    rw end (record { some = omega arith; end = sym end; inside = inside; equal = is.equal ∙ ap (λ (x : ℤ). replicate (to - from) x ++ drop to xs) (sym valued); other = other })

pub ends_at_another : (xs : List ℤ) (from to : ℕ) (value : ℤ) → IsAlike xs from to → value ≡ get_or xs from (pos 0) → (get_or xs to (pos 0) ≡ get_or xs from (pos 0) → ⊥)
    → IsLongestRun xs from (from + (to - from)) (record { value = value; count = to - from })
ends_at_another xs from to value is valued ne = ends xs from to value is valued (λ lt e. ne (e ∙ valued))

pub ends_with_the_list : (xs : List ℤ) (from to len : ℕ) (value : ℤ) → IsAlike xs from to → value ≡ get_or xs from (pos 0) → len ≡ length xs → len ≤ to
    → IsLongestRun xs from (from + (len - from)) (record { value = value; count = len - from })
ends_with_the_list xs from to len value is valued count le =
    let inside = is.inside in
    let end : len ≡ to = omega arith in
    rw end (ends xs from to value is valued (λ lt. absurd (omega (arith, lt, count))))

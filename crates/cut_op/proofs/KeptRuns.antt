-- What is asked of all items of a part of a column is asked of its runs.
use Rattle.std.proofs.Common.{rules, ◌≡◌, ℕ, ℤ, zero, suc, pos, ◌+◌, ◌-◌, ◌*◌, ◌^◌, ◌<◌, ◌≤◌, min, max, ◌*ℤ◌, Bool, true, false, ltb, not, ◌&&◌, ◌||◌, List, [], ◌∷◌, ◌++◌, length, map, take, drop, replicate, refl, sym, ap, ◌∙◌, arith, subst, append_assoc}
use Rattle.std.specs.Prelude.{slice_range, unsigned_abs, fold}
use Rattle.std.specs.List.{list_all, list_any}
use Rattle.std.proofs.lemmas.List.{drop-drop, drop-take, length-drop, length-replicate, map-append, places, same_lists, take-append-drop, take-append-le, take-replicate}
use Rattle.std.proofs.lemmas.List.Folds.{drop_split, list_all-append, list_any-append}
use Rattle.mp_columns.specs.declared.run.Run.{Run}
use Rattle.mp_columns.specs.Numbers.{largest}
use Rattle.mp_columns.specs.Runs.{IsLongestRun}
use Rattle.mp_movie.specs.PartsFit.{is_long}

-- the part up to the end of a run, as far as the whole part goes, is the part before it and so many items of it
record Grows (items : List ℤ) (from to place end : ℕ) (value : ℤ) : Type 0 where
  pub more : ℕ
  pub is : slice_range items from (min end to) ≡ slice_range items from (min place to) ++ replicate (suc more) value

slice-more : (items : List ℤ) (from p e : ℕ) → from ≤ p → p ≤ e → slice_range items from e ≡ slice_range items from p ++ slice_range items p e
slice-more items from p e low high =
    let long : e - from ≡ p - from + (e - p) = omega (arith, low, high) in
    let place : from + (p - from) ≡ p = omega (arith, low) in
    ap (λ (n : ℕ). take n (drop from items)) long
    ∙ (parts (p - from) (e - p) (drop from items)
    ∙ ap (λ (xs : List ℤ). take (p - from) (drop from items) ++ take (e - p) xs) (drop-drop (p - from) from items ∙ ap (λ (n : ℕ). drop n items) place))
  where
    parts : (n m : ℕ) (xs : List ℤ) → take (n + m) xs ≡ take n xs ++ take m (drop n xs)
    parts n m xs = same_lists _ _ (search (rules, places)) (λ k d q. grind (arith, places))

-- the front of a run
front_of_run : (items : List ℤ) (p e k : ℕ) (run : Run) → IsLongestRun items p e run → k ≤ run.count → take k (drop p items) ≡ replicate k run.value
front_of_run items p e k run is le =
    ap (take k) is.equal
    ∙ (take-append-le k (replicate run.count run.value) (drop e items) (omega (arith, le, length-replicate run.count run.value)) ∙ take-replicate k run.count run.value le)

grows : (items : List ℤ) (from to place end : ℕ) (run : Run) → from ≤ place → place < to → IsLongestRun items place end run → Grows items from to place end run.value
grows items from to place end run low lt is =
    let stop : ℕ = min end to in
    let some = is.some in
    let ends = is.end in
    let here : min place to ≡ place = omega (arith, lt) in
    let more : stop - place ≡ suc (stop - place - 1) = omega (arith, lt, some, ends) in
    let few : stop - place ≤ run.count = omega (arith, ends) in
    record {
      more = stop - place - 1;
      is =
          slice-more items from place stop low (omega (arith, lt, some, ends))
          ∙ (ap (λ (xs : List ℤ). slice_range items from place ++ xs) (front_of_run items place end (stop - place) run is few ∙ ap (λ (n : ℕ). replicate n run.value) more)
          ∙ ap (λ (p : ℕ). slice_range items from p ++ replicate (suc (stop - place - 1)) run.value) (sym here));
    }

-- ---- what holds of all items

all-replicate : (p : ℤ → Bool) (n : ℕ) (v : ℤ) → list_all p (replicate (suc n) v) ≡ p v
all-replicate p zero v = by (p v)
  where
    by : (b : Bool) → (b && true) ≡ b
    by true = refl
    by false = refl
all-replicate p (suc n) v = ap (λ (b : Bool). p v && b) (all-replicate p n v) ∙ by (p v)
  where
    by : (b : Bool) → (b && b) ≡ b
    by true = refl
    by false = refl

-- items that are asked up to a place
pub record AreAsked (p : ℤ → Bool) (items : List ℤ) (from to place : ℕ) (all : Bool) : Type 0 where
  pub low : from ≤ place
  pub is : all ≡ list_all p (slice_range items from (min place to))

pub none_asked : (p : ℤ → Bool) (items : List ℤ) (from to : ℕ) → from ≤ to → AreAsked p items from to from true
none_asked p items from to le =
    let nothing : min from to - from ≡ 0 = omega (arith, le) in
    record { low = omega arith; is = sym (ap (λ (n : ℕ). list_all p (take n (drop from items))) nothing) }

pub run_asked : (p : ℤ → Bool) (items : List ℤ) (from to place end : ℕ) (run : Run) (all now : Bool) → place < to → AreAsked p items from to place all → IsLongestRun items place end run → now ≡ (all && p run.value)
    → AreAsked p items from to end now
run_asked p items from to place end run all now lt asked is now_is =
    let g = grows items from to place end run asked.low lt is in
    let ends = is.end in
    let low = asked.low in
    record {
      low = omega (arith, low, ends);
      is =
          now_is ∙ (ap (λ (b : Bool). b && p run.value) asked.is
          ∙ sym (ap (list_all p) g.is ∙ (list_all-append p (slice_range items from (min place to)) (replicate (suc g.more) run.value) ∙ ap (λ (b : Bool). list_all p (slice_range items from (min place to)) && b) (all-replicate p g.more run.value))));
    }

pub all_asked : (p : ℤ → Bool) (items : List ℤ) (from to place : ℕ) (all : Bool) → to ≤ place → AreAsked p items from to place all → all ≡ list_all p (slice_range items from to)
all_asked p items from to place all past asked = let end : min place to ≡ to = omega (arith, past) in asked.is ∙ ap (λ (n : ℕ). list_all p (slice_range items from n)) end

pub all-map : {A B : Type 0} (p : B → Bool) (f : A → B) (xs : List A) → list_all p (map f xs) ≡ list_all (λ x. p (f x)) xs
all-map p f [] = refl
all-map p f (x ∷ xs) = ap (λ (b : Bool). p (f x) && b) (all-map p f xs)

-- ---- the greatest number of a column

long-from : (n : ℕ) (xs : List ℤ) → ltb (2 ^ 32 - 1) (fold (λ most x. max most (unsigned_abs x)) n xs) ≡ (ltb (2 ^ 32 - 1) n || not (list_all (λ x. not (ltb (2 ^ 32 - 1) (unsigned_abs x))) xs))
long-from n [] = by (ltb (2 ^ 32 - 1) n)
  where
    by : (b : Bool) → b ≡ (b || false)
    by true = refl
    by false = refl
long-from n (x ∷ xs) = long-from (max n (unsigned_abs x)) xs ∙ (ap (λ (b : Bool). b || not (list_all (λ x. not (ltb (2 ^ 32 - 1) (unsigned_abs x))) xs)) (below_max (2 ^ 32 - 1) n (unsigned_abs x)) ∙ by (ltb (2 ^ 32 - 1) n) (ltb (2 ^ 32 - 1) (unsigned_abs x)) (list_all (λ x. not (ltb (2 ^ 32 - 1) (unsigned_abs x))) xs))
  where
    below_max : (a x y : ℕ) → ltb a (max x y) ≡ (ltb a x || ltb a y)
    below_max a x y = grind arith

    by : (a b c : Bool) → ((a || b) || not c) ≡ (a || not (not b && c))
    by true b c = refl
    by false true c = refl
    by false false c = refl

-- no item is long
abbrev pub is_short : ℤ → Bool
is_short x = not (is_long (x ∷ []))

pub long_is : (xs : List ℤ) → is_long xs ≡ not (list_all is_short xs)
long_is xs = long-from 0 xs ∙ ap not (same xs)
  where
    same : (ys : List ℤ) → list_all (λ x. not (ltb (2 ^ 32 - 1) (unsigned_abs x))) ys ≡ list_all is_short ys
    same [] = refl
    same (y ∷ ys) = ap (λ (n : ℕ). not (ltb (2 ^ 32 - 1) n) && list_all (λ x. not (ltb (2 ^ 32 - 1) (unsigned_abs x))) ys) (none (unsigned_abs y)) ∙ ap (λ (b : Bool). is_short y && b) (same ys)
      where
        none : (n : ℕ) → n ≡ max 0 n
        none n = omega arith

not_not : (b : Bool) → b ≡ not (not b)
not_not true = refl
not_not false = refl

-- one more item may be long
pub long_or : (long more : Bool) → not (long || more) ≡ (not long && not more)
long_or true more = refl
long_or false more = refl

pub long_asked : (k : ℕ) (items : List ℤ) (from to place : ℕ) (long : Bool) → to ≤ place → AreAsked (λ delta. is_short (delta *ℤ pos k)) items from to place (not long) → long ≡ is_long (map (λ delta. delta *ℤ pos k) (slice_range items from to))
long_asked k items from to place long past asked =
    not_not long
    ∙ (ap not (all_asked (λ delta. is_short (delta *ℤ pos k)) items from to place (not long) past asked)
    ∙ (ap not (sym (all-map is_short (λ delta. delta *ℤ pos k) (slice_range items from to))) ∙ sym (long_is (map (λ delta. delta *ℤ pos k) (slice_range items from to)))))

pub wide_asked : (p q : ℤ → Bool) (f : ℤ → ℤ) (items : List ℤ) (from to place : ℕ) (all any : Bool) → to ≤ place → AreAsked (λ x. p (f x)) items from to place all → AreAsked (λ x. q (f x)) items from to place any
    → (not all && not any) ≡ (not (list_all p (map f (slice_range items from to))) && not (list_all q (map f (slice_range items from to))))
wide_asked p q f items from to place all any past first second =
    ap (λ (b : Bool). not b && not any) (all_asked (λ x. p (f x)) items from to place all past first ∙ sym (all-map p f (slice_range items from to)))
    ∙ ap (λ (b : Bool). not (list_all p (map f (slice_range items from to))) && not b) (all_asked (λ x. q (f x)) items from to place any past second ∙ sym (all-map q f (slice_range items from to)))

-- What is kept, cut at one of its runs.
use Rattle.std.proofs.Common.{◌≡◌, ◌≢◌, ℕ, zero, suc, ◌+◌, ◌-◌, ◌<◌, ◌≤◌, List, [], ◌∷◌, ◌++◌, length, replicate, map, take, drop, get_or, set, Option, Some, None, ℤ, pos, refl, sym, ap, ◌∙◌, append_assoc, arith}
use Rattle.std.specs.List.{last_or}
use Rattle.std.proofs.lemmas.List.{append-nil, length-append, length-replicate, map-append, take-append-le, take-replicate, drop-append-le, drop-replicate, replicate-append-replicate}
use Rattle.mp_columns.specs.Kept.{AreKept, items_from}

-- ---- how many there are

pub same_count : (start : ℕ) (before : Option ℤ) (ends : List ℕ) (values : List ℤ) → AreKept start before ends values → length ends ≡ length values
same_count start before [] [] kept = refl
same_count start before [] (value ∷ values) kept = absurd kept
same_count start before (end ∷ ends) [] kept = absurd kept
same_count start before (end ∷ ends) (value ∷ values) kept = ap suc (same_count end (Some value) ends values kept.1)

-- the items end where the last run does
pub length-from : (start : ℕ) (before : Option ℤ) (ends : List ℕ) (values : List ℤ) → AreKept start before ends values → start + length (items_from start ends values) ≡ get_or (start ∷ ends) (length ends) 0
length-from start before [] [] kept = omega arith
length-from start before [] (value ∷ values) kept = absurd kept
length-from start before (end ∷ ends) [] kept = absurd kept
length-from start before (end ∷ ends) (value ∷ values) kept =
    let longer = kept.0.longer in
    omega (arith, length-append (replicate (end - start) value) (items_from end ends values), length-replicate (end - start) value, length-from end (Some value) ends values kept.1)

-- runs begin one behind the other
pub starts_rise : (start : ℕ) (before : Option ℤ) (ends : List ℕ) (values : List ℤ) (run : ℕ) → AreKept start before ends values → run ≤ length ends → start ≤ get_or (start ∷ ends) run 0
starts_rise start before ends values zero kept le = omega arith
starts_rise start before [] values (suc run) kept le = absurd (omega arith)
starts_rise start before (end ∷ ends) [] (suc run) kept le = absurd kept
starts_rise start before (end ∷ ends) (value ∷ values) (suc run) kept le =
    let longer = kept.0.longer in omega (arith, starts_rise end (Some value) ends values run kept.1 (omega arith))

-- and within the items
pub starts_within : (start : ℕ) (before : Option ℤ) (ends : List ℕ) (values : List ℤ) (run : ℕ) → AreKept start before ends values → run ≤ length ends → get_or (start ∷ ends) run 0 ≤ start + length (items_from start ends values)
starts_within start before ends values zero kept le = omega arith
starts_within start before [] values (suc run) kept le = absurd (omega arith)
starts_within start before (end ∷ ends) [] (suc run) kept le = absurd kept
starts_within start before (end ∷ ends) (value ∷ values) (suc run) kept le =
    let longer = kept.0.longer in
    omega (arith, length-append (replicate (end - start) value) (items_from end ends values), length-replicate (end - start) value, starts_within end (Some value) ends values run kept.1 (omega arith))

-- ---- one run

-- the items before a run, its own, and those behind it
pub record IsRunAt (start : ℕ) (ends : List ℕ) (values : List ℤ) (run : ℕ) : Type 0 where
  pub front : List ℤ
  pub behind : List ℤ
  pub items : items_from start ends values ≡ front ++ (replicate (get_or ends run 0 - get_or (start ∷ ends) run 0) (get_or values run (pos 0)) ++ behind)
  pub front_len : start + length front ≡ get_or (start ∷ ends) run 0
  pub longer : get_or (start ∷ ends) run 0 < get_or ends run 0
  pub other : 0 < length behind → get_or behind 0 (pos 0) ≡ get_or values run (pos 0) → ⊥

first_is : (n : ℕ) (x d : ℤ) (rest : List ℤ) → 0 < n → get_or (replicate n x ++ rest) 0 d ≡ x
first_is zero x d rest some = absurd (omega arith)
first_is (suc n) x d rest some = refl

other_first : (start : ℕ) (value : ℤ) (ends : List ℕ) (values : List ℤ) → AreKept start (Some value) ends values → 0 < length (items_from start ends values) → get_or (items_from start ends values) 0 (pos 0) ≡ value → ⊥
other_first start value [] [] kept some same = absurd (omega (arith, some))
other_first start value [] (next ∷ values) kept some same = absurd kept
other_first start value (end ∷ ends) [] kept some same = absurd kept
other_first start value (end ∷ ends) (next ∷ values) kept some same =
    let longer = kept.0.longer in
    kept.0.other (ap (λ (x : ℤ). Some x) (sym same ∙ first_is (end - start) next (pos 0) (items_from end ends values) (omega arith)))

pub run_at : (start : ℕ) (before : Option ℤ) (ends : List ℕ) (values : List ℤ) (run : ℕ) → AreKept start before ends values → run < length ends → IsRunAt start ends values run
run_at start before [] values run kept lt = absurd (omega arith)
run_at start before (end ∷ ends) [] run kept lt = absurd kept
run_at start before (end ∷ ends) (value ∷ values) zero kept lt =
    record { front = []; behind = items_from end ends values; items = refl; front_len = omega arith; longer = kept.0.longer; other = other_first end value ends values kept.1 }
run_at start before (end ∷ ends) (value ∷ values) (suc run) kept lt =
    let longer = kept.0.longer in
    let rest = run_at end (Some value) ends values run kept.1 (omega arith) in
    let own = replicate (end - start) value in
    record {
      front = own ++ rest.front;
      behind = rest.behind;
      items = ap (λ (xs : List ℤ). own ++ xs) rest.items ∙ sym (append_assoc own rest.front _);
      front_len = omega (arith, length-append own rest.front, length-replicate (end - start) value, rest.front_len);
      longer = rest.longer;
      other = rest.other;
    }

-- ---- the first items, and those behind them

pub take_past : {X : Type 0} (n m : ℕ) (xs ys : List X) → length xs ≡ n → take (n + m) (xs ++ ys) ≡ xs ++ take m ys
take_past {X = X} n m [] ys e = let none : n + m ≡ m = omega (arith, e) in ap (λ (k : ℕ). take k ys) none
take_past {X = X} n m (x ∷ xs) ys e = let one : n + m ≡ suc (n - 1 + m) = omega (arith, e) in rw one (ap (λ (zs : List X). x ∷ zs) (take_past (n - 1) m xs ys (omega (arith, e))))

pub drop_past : {X : Type 0} (n m : ℕ) (xs ys : List X) → length xs ≡ n → drop (n + m) (xs ++ ys) ≡ drop m ys
drop_past {X = X} n m [] ys e = let none : n + m ≡ m = omega (arith, e) in ap (λ (k : ℕ). drop k ys) none
drop_past {X = X} n m (x ∷ xs) ys e = let one : n + m ≡ suc (n - 1 + m) = omega (arith, e) in rw one (drop_past (n - 1) m xs ys (omega (arith, e)))

-- a run that ends earlier, and is the last one
pub cut_back : (start : ℕ) (before : Option ℤ) (ends : List ℕ) (values : List ℤ) (run to : ℕ) → AreKept start before ends values → run < length ends → get_or (start ∷ ends) run 0 < to → to ≤ get_or ends run 0
    → AreKept start before (set (take (suc run) ends) run to) (take (suc run) values) × (items_from start (set (take (suc run) ends) run to) (take (suc run) values) ≡ take (to - start) (items_from start ends values))
cut_back start before [] values run to kept lt begun ended = absurd (omega arith)
cut_back start before (end ∷ ends) [] run to kept lt begun ended = absurd kept
cut_back start before (end ∷ ends) (value ∷ values) zero to kept lt begun ended = (
  (record { longer = begun; other = kept.0.other }, tt),
  append-nil (replicate (to - start) value)
      ∙ sym (take-append-le (to - start) (replicate (end - start) value) (items_from end ends values) (omega (arith, length-replicate (end - start) value)) ∙ take-replicate (to - start) (end - start) value (omega arith)),
)
cut_back start before (end ∷ ends) (value ∷ values) (suc run) to kept lt begun ended =
    let longer = kept.0.longer in
    let rest = cut_back end (Some value) ends values run to kept.1 (omega arith) begun ended in
    let rise = starts_rise end (Some value) ends values run kept.1 (omega arith) in
    let parts : to - start ≡ end - start + (to - end) = omega arith in (
      (kept.0, rest.0),
      ap (λ (xs : List ℤ). replicate (end - start) value ++ xs) rest.1
          ∙ sym (ap (λ (n : ℕ). take n (items_from start (end ∷ ends) (value ∷ values))) parts ∙ take_past (end - start) (to - end) (replicate (end - start) value) (items_from end ends values) (length-replicate (end - start) value)),
    )

-- a run that begins later, and is the first one
pub cut_front : (start : ℕ) (before : Option ℤ) (ends : List ℕ) (values : List ℤ) (run from : ℕ) → AreKept start before ends values → run < length ends → get_or (start ∷ ends) run 0 ≤ from → from < get_or ends run 0
    → AreKept from None (drop run ends) (drop run values) × (items_from from (drop run ends) (drop run values) ≡ drop (from - start) (items_from start ends values))
cut_front start before [] values run from kept lt begun ended = absurd (omega arith)
cut_front start before (end ∷ ends) [] run from kept lt begun ended = absurd kept
cut_front start before (end ∷ ends) (value ∷ values) zero from kept lt begun ended =
    let less : end - start - (from - start) ≡ end - from = omega arith in (
      (record { longer = ended; other = none_before }, kept.1),
      sym (drop-append-le (from - start) (replicate (end - start) value) (items_from end ends values) (omega (arith, length-replicate (end - start) value))
          ∙ ap (λ (xs : List ℤ). xs ++ items_from end ends values) (drop-replicate (from - start) (end - start) value ∙ ap (λ (n : ℕ). replicate n value) less)),
    )
  where
    none_before : None ≢ Some value
    none_before e = cc
cut_front start before (end ∷ ends) (value ∷ values) (suc run) from kept lt begun ended =
    let longer = kept.0.longer in
    let rest = cut_front end (Some value) ends values run from kept.1 (omega arith) begun ended in
    let rise = starts_rise end (Some value) ends values run kept.1 (omega arith) in
    let parts : from - start ≡ end - start + (from - end) = omega arith in (
      rest.0,
      rest.1 ∙ sym (ap (λ (n : ℕ). drop n (items_from start (end ∷ ends) (value ∷ values))) parts ∙ drop_past (end - start) (from - end) (replicate (end - start) value) (items_from end ends values) (length-replicate (end - start) value)),
    )

-- runs that begin and end earlier by as much
pub lowered : (start by : ℕ) (before : Option ℤ) (ends : List ℕ) (values : List ℤ) → AreKept start before ends values → by ≤ start
    → AreKept (start - by) before (map (λ end. end - by) ends) values × (items_from (start - by) (map (λ end. end - by) ends) values ≡ items_from start ends values)
lowered start by before [] [] kept le = (tt, refl)
lowered start by before [] (value ∷ values) kept le = absurd kept
lowered start by before (end ∷ ends) [] kept le = absurd kept
lowered start by before (end ∷ ends) (value ∷ values) kept le =
    let longer = kept.0.longer in
    let rest = lowered end by (Some value) ends values kept.1 (omega arith) in
    let same : end - by - (start - by) ≡ end - start = omega arith in
    ((record { longer = omega arith; other = kept.0.other }, rest.0), ap (λ (n : ℕ). replicate n value ++ items_from (end - by) (map (λ end. end - by) ends) values) same ∙ ap (λ (xs : List ℤ). replicate (end - start) value ++ xs) rest.1)

-- ---- one run more

-- the last run is longer
pub grown : (start : ℕ) (before : Option ℤ) (ends : List ℕ) (values : List ℤ) (run more : ℕ) → AreKept start before ends values → suc run ≡ length ends
    → AreKept start before (set ends run (get_or ends run 0 + more)) values × (items_from start (set ends run (get_or ends run 0 + more)) values ≡ items_from start ends values ++ replicate more (get_or values run (pos 0)))
grown start before [] values run more kept last = absurd (omega (arith, last))
grown start before (end ∷ ends) [] run more kept last = absurd kept
grown start before (end ∷ []) (value ∷ []) zero more kept last =
    let longer = kept.0.longer in
    let parts : end + more - start ≡ end - start + more = omega arith in (
      (record { longer = omega arith; other = kept.0.other }, tt),
      append-nil (replicate (end + more - start) value)
          ∙ (ap (λ (n : ℕ). replicate n value) parts
          ∙ (sym (replicate-append-replicate (end - start) more value) ∙ ap (λ (xs : List ℤ). xs ++ replicate more value) (sym (append-nil (replicate (end - start) value))))),
    )
grown start before (end ∷ []) (value ∷ next ∷ values) zero more kept last = absurd kept.1
grown start before (end ∷ next ∷ ends) (value ∷ values) zero more kept last = absurd (omega (arith, last))
grown start before (end ∷ ends) (value ∷ values) (suc run) more kept last =
    let rest = grown end (Some value) ends values run more kept.1 (omega (arith, last)) in
    ((kept.0, rest.0), ap (λ (xs : List ℤ). replicate (end - start) value ++ xs) rest.1 ∙ sym (append_assoc (replicate (end - start) value) (items_from end ends values) (replicate more (get_or values run (pos 0)))))

-- a run of another value follows
pub followed : (start : ℕ) (before : Option ℤ) (ends : List ℕ) (values : List ℤ) (more : ℕ) (value : ℤ) → AreKept start before ends values → 0 < more → last_or before values ≢ Some value
    → AreKept start before (ends ++ ((get_or (start ∷ ends) (length ends) 0 + more) ∷ [])) (values ++ (value ∷ []))
    × (items_from start (ends ++ ((get_or (start ∷ ends) (length ends) 0 + more) ∷ [])) (values ++ (value ∷ [])) ≡ items_from start ends values ++ replicate more value)
followed start before [] [] more value kept some other =
    let own : start + more - start ≡ more = omega arith in
    ((record { longer = omega arith; other = other }, tt), append-nil (replicate (start + more - start) value) ∙ ap (λ (n : ℕ). replicate n value) own)
followed start before [] (first ∷ values) more value kept some other = absurd kept
followed start before (end ∷ ends) [] more value kept some other = absurd kept
followed start before (end ∷ ends) (first ∷ values) more value kept some other =
    let rest = followed end (Some first) ends values more value kept.1 some other in
    ((kept.0, rest.0), ap (λ (xs : List ℤ). replicate (end - start) first ++ xs) rest.1 ∙ sym (append_assoc (replicate (end - start) first) (items_from end ends values) (replicate more value)))

-- ---- other values

map-replicate : (f : ℤ → ℤ) (n : ℕ) (x : ℤ) → map f (replicate n x) ≡ replicate n (f x)
map-replicate f zero x = refl
map-replicate f (suc n) x = ap (λ (xs : List ℤ). f x ∷ xs) (map-replicate f n x)

pub items-map : (f : ℤ → ℤ) (start : ℕ) (ends : List ℕ) (values : List ℤ) → items_from start ends (map f values) ≡ map f (items_from start ends values)
items-map f start [] values = refl
items-map f start (end ∷ ends) [] = refl
items-map f start (end ∷ ends) (value ∷ values) =
    ap (λ (xs : List ℤ). replicate (end - start) (f value) ++ xs) (items-map f end ends values)
    ∙ (ap (λ (xs : List ℤ). xs ++ map f (items_from end ends values)) (sym (map-replicate f (end - start) value)) ∙ sym (map-append f (replicate (end - start) value) (items_from end ends values)))

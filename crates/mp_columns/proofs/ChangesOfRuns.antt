-- What a change of the runs makes of the column.
use Rattle.std.proofs.Common.{◌≡◌, ◌≢◌, ℕ, zero, suc, ◌+◌, ◌-◌, ◌<◌, ◌≤◌, List, [], ◌∷◌, ◌++◌, length, replicate, map, take, drop, get_or, set, All, FitsSigned, w64, Option, Some, None, ℤ, pos, ◌+ℤ◌, ◌-ℤ◌, ◌*ℤ◌, ◌≤ℤ◌, refl, sym, ap, subst, ◌∙◌, add-one, ◌*◌, ◌/◌, arith}
use Rattle.std.specs.Prelude.{negsuc, int_div, int_rem, slice_range}
use Rattle.std.specs.List.{last_or, AllByRecursion}
use Rattle.std.proofs.lemmas.Int.{ints}
use Rattle.std.proofs.lemmas.List.{length-append, length-replicate, length-set, length-take, length-take-le, length_push, length-map, get_or_default, get_or-map, take_rest, drop-take, append-nil}
use Rattle.mp_columns.specs.declared.columns.TheConstants.{MOST_ITEMS}
use Rattle.mp_columns.specs.Kept.{AreKept, AreLongest, AreSums, CanFind, IsColumn, IsSum, all_items, end_at, items_from, start_at, value_at}
use Rattle.mp_columns.proofs.CutAtRuns.{cut_back, cut_front, followed, grown, items-map, length-from, lowered, run_at, same_count, starts_rise, starts_within}
use Rattle.mp_columns.proofs.ChangesOfSums.{cut_sums, same_sums, start-push, start-set}
use Rattle.mp_columns.proofs.SumsOfChanges.{divided_sum, scaled_sum, shifted_sum}
use Rattle.mp_columns.proofs.Searching.{few_runs, start_next}
use Rattle.mp_columns.proofs.LastOfRuns.{last_is}
use Rattle.mp_columns.proofs.Mapping.{exact_quotient}
use Rattle.mp_columns.proofs.ValuesOfRuns.{mapped, values_all}

pub some_same : (x y : ℤ) → Some x ≡ Some y → x ≡ y
some_same x y e = cc

-- runs begin within the items
pub starts_inside : (ends : List ℕ) (values : List ℤ) (run : ℕ) → AreLongest ends values → run ≤ length ends → start_at ends run ≤ length (all_items ends values)
starts_inside ends values run longest le = omega (arith, starts_within 0 None ends values run longest le)

-- the items end where the last run does
pub length-items : (ends : List ℕ) (values : List ℤ) → AreLongest ends values → length (all_items ends values) ≡ start_at ends (length ends)
length-items ends values longest = omega (arith, length-from 0 None ends values longest)

pub last_end_is : (ends : List ℕ) (values : List ℤ) (last : ℕ) → AreLongest ends values → suc last ≡ length ends → end_at ends last ≡ length (all_items ends values)
last_end_is ends values last longest is =
    let next : last + 1 ≡ length ends = omega (arith, is) in
    sym (length-items ends values longest ∙ (ap (start_at ends) (sym next) ∙ start_next ends last))

-- so an item can be found
pub can_find : (ends : List ℕ) (values : List ℤ) (i : ℕ) → AreLongest ends values → i < length (all_items ends values) → CanFind ends i
can_find ends values i longest lt = record {
  rising = λ run inside. (run_at 0 None ends values run longest inside).longer;
  inside = omega (arith, lt, length-items ends values longest);
}

-- a column has no more runs than items
pub runs_within : (ends : List ℕ) (values : List ℤ) → AreLongest ends values → length ends ≤ length (all_items ends values)
runs_within ends values longest = omega (arith, few_runs ends (λ run inside. (run_at 0 None ends values run longest inside).longer), length-items ends values longest)

-- ---- items that follow

-- the last run is longer
pub grows : (ends : List ℕ) (values sums : List ℤ) (last more : ℕ) (value : ℤ) → IsColumn ends values sums → suc last ≡ length ends → last_or None values ≡ Some value → length (all_items ends values) + more ≤ MOST_ITEMS
    → IsColumn (set ends last (end_at ends last + more)) values sums × (all_items (set ends last (end_at ends last + more)) values ≡ all_items ends values ++ replicate more value)
grows ends values sums last more value column is valued room =
    let later = set ends last (end_at ends last + more) in
    let g = grown 0 None ends values last more column.longest is in
    let same : value_at values last ≡ value = some_same _ _ (sym (last_is None values last (pos 0) (is ∙ same_count 0 None ends values column.longest)) ∙ valued) in
    let items : all_items later values ≡ all_items ends values ++ replicate more value = g.1 ∙ ap (λ (x : ℤ). all_items ends values ++ replicate more x) same in
    let kept : AreSums (length ends) later (all_items later values) sums =
    same_sums (length ends) ends later (all_items ends values) (replicate more value) (all_items later values) sums items (λ run lt. start-set ends last (end_at ends last + more) run (omega (arith, lt, is)))
    (λ run lt. starts_inside ends values run column.longest (omega (arith, lt))) column.sums in (
      record {
        longest = g.0;
        few = omega (arith, ap length items, length-append (all_items ends values) (replicate more value), length-replicate more value, room);
        sums = subst (λ (n : ℕ). AreSums n later (all_items later values) sums) (sym (length-set ends last (end_at ends last + more))) kept;
      },
      items,
    )

-- a run of another value follows
pub follows : (ends : List ℕ) (values old sums : List ℤ) (more : ℕ) (value : ℤ) → IsColumn ends values old → AreSums (length ends + 1) ends (all_items ends values) sums → 0 < more → last_or None values ≢ Some value → length (all_items ends values) + more ≤ MOST_ITEMS
    → IsColumn (ends ++ ((start_at ends (length ends) + more) ∷ [])) (values ++ (value ∷ [])) sums × (all_items (ends ++ ((start_at ends (length ends) + more) ∷ [])) (values ++ (value ∷ [])) ≡ all_items ends values ++ replicate more value)
follows ends values old sums more value column due some other room =
    let end = start_at ends (length ends) + more in
    let later = ends ++ (end ∷ []) in
    let now = values ++ (value ∷ []) in
    let f = followed 0 None ends values more value column.longest some other in
    let kept : AreSums (length ends + 1) later (all_items later now) sums =
    same_sums (length ends + 1) ends later (all_items ends values) (replicate more value) (all_items later now) sums f.1 (λ run lt. start-push ends end run (omega (arith, lt)))
    (λ run lt. starts_inside ends values run column.longest (omega (arith, lt))) due in (
      record {
        longest = f.0;
        few = omega (arith, ap length f.1, length-append (all_items ends values) (replicate more value), length-replicate more value, room);
        sums = subst (λ (n : ℕ). AreSums n later (all_items later now) sums) (sym (length_push ends end)) kept;
      },
      f.1,
    )

-- ---- items that are left

pub ends_above : (start : ℕ) (before : Option ℤ) (ends : List ℕ) (values : List ℤ) → AreKept start before ends values → All (λ end. start ≤ end) ends
ends_above start before ends values kept i d lt = subst (λ (end : ℕ). start ≤ end) (get_or_default ends i 0 d lt) (starts_rise start before ends values (suc i) kept (omega (arith, lt)))

pub range_to_end : {X : Type 0} (xs : List X) (from len : ℕ) → len ≡ length xs → slice_range xs from len ≡ drop from xs
range_to_end xs from len is = rw is (take_rest xs from)

pub range_is : {X : Type 0} (xs : List X) (from to : ℕ) → from ≤ to → drop from (take to xs) ≡ slice_range xs from to
range_is xs from to order = let parts : from + (to - from) ≡ to = omega (arith, order) in ap (λ (n : ℕ). drop from (take n xs)) (sym parts) ∙ drop-take from (to - from) xs

pub cut_after : (ends : List ℕ) (values : List ℤ) (run to : ℕ) → AreLongest ends values → run < length ends → start_at ends run < to → to ≤ end_at ends run
    → AreLongest (set (take (run + 1) ends) run to) (take (run + 1) values) × (all_items (set (take (run + 1) ends) run to) (take (run + 1) values) ≡ take to (all_items ends values))
cut_after ends values run to longest lt begun ended =
    let c = cut_back 0 None ends values run to longest lt begun ended in
    let none : to - 0 ≡ to = omega arith in
    rw (add-one run) (c.0, c.1 ∙ ap (λ (n : ℕ). take n (all_items ends values)) none)

-- with the sums of the runs that are left it is a column
pub cut_column : (ends : List ℕ) (values sums : List ℤ) (run to : ℕ) → IsColumn ends values sums → run < length ends → start_at ends run < to → to ≤ end_at ends run
    → IsColumn (set (take (run + 1) ends) run to) (take (run + 1) values) (take (run / 16 + 1) sums) × (all_items (set (take (run + 1) ends) run to) (take (run + 1) values) ≡ take to (all_items ends values))
cut_column ends values sums run to column lt begun ended =
    let c = cut_after ends values run to column.longest lt begun ended in
    let later = set (take (run + 1) ends) run to in
    let left : length later ≡ run + 1 = length-set (take (run + 1) ends) run to ∙ length-take-le (run + 1) ends (omega (arith, lt)) in
    let kept = cut_sums ends (all_items ends values) sums run to (λ k inside. (run_at 0 None ends values k column.longest inside).longer) lt (omega (arith, begun)) column.sums in
    let few : length (take to (all_items ends values)) ≤ length (all_items ends values) = omega (arith, length-take to (all_items ends values)) in (
      record {
        longest = c.0;
        few = omega (arith, ap length c.1, few, column.few);
        sums = rw (left, c.1) kept;
      },
      c.1,
    )

pub cut_before : (ends : List ℕ) (values : List ℤ) (run from : ℕ) → AreLongest ends values → run < length ends → start_at ends run ≤ from → from < end_at ends run
    → AreLongest (map (λ end. end - from) (drop run ends)) (drop run values) × (all_items (map (λ end. end - from) (drop run ends)) (drop run values) ≡ drop from (all_items ends values))
cut_before ends values run from longest lt begun ended =
    let c = cut_front 0 None ends values run from longest lt begun ended in
    let l = lowered from from None (drop run ends) (drop run values) c.0 (omega arith) in
    let none : from - from ≡ 0 = omega arith in
    let whole : from - 0 ≡ from = omega arith in
    let lower = map (λ (end : ℕ). end - from) (drop run ends) in
    (subst (λ (n : ℕ). AreKept n None lower (drop run values)) none l.0, ap (λ (n : ℕ). items_from n lower (drop run values)) (sym none) ∙ (l.1 ∙ (c.1 ∙ ap (λ (n : ℕ). drop n (all_items ends values)) whole)))

-- the runs that are cut begin where the first one does
pub ends_from : (ends : List ℕ) (values : List ℤ) (run from : ℕ) → AreLongest ends values → run < length ends → start_at ends run ≤ from → from < end_at ends run → All (λ end. from ≤ end) (drop run ends)
ends_from ends values run from longest lt begun ended = ends_above from None (drop run ends) (drop run values) (cut_front 0 None ends values run from longest lt begun ended).0

-- ---- numbers that are told apart

more_times : (x : ℤ) (n : ℕ) → x *ℤ pos (suc n) ≡ x +ℤ (x *ℤ pos n)
more_times x n = omega (arith, ints)

rises : (n : ℕ) (x : ℤ) → pos 1 ≤ℤ x → pos n ≤ℤ (x *ℤ pos n)
rises zero x some = omega (arith, ints)
rises (suc n) x some = let rest = rises n x some in let more = more_times x n in omega (arith, ints, rest, more)

falls : (n : ℕ) (x : ℤ) → (x +ℤ pos 1) ≤ℤ pos 0 → ((x *ℤ pos n) +ℤ pos n) ≤ℤ pos 0
falls zero x some = omega (arith, ints)
falls (suc n) x some = let rest = falls n x some in let more = more_times x n in omega (arith, ints, rest, more)

zero_times : (n : ℕ) (x : ℤ) → 1 ≤ n → x *ℤ pos n ≡ pos 0 → x ≡ pos 0
zero_times n (pos zero) some e = refl
zero_times n (pos (suc m)) some e = let rise = rises n (pos (suc m)) (omega (arith, ints)) in absurd (omega (arith, ints, rise, e))
zero_times n (negsuc m) some e = let fall = falls n (negsuc m) (omega (arith, ints)) in absurd (omega (arith, ints, fall, e))

difference_times : (n : ℕ) (x y : ℤ) → (x -ℤ y) *ℤ pos n ≡ (x *ℤ pos n) -ℤ (y *ℤ pos n)
difference_times zero x y = omega (arith, ints)
difference_times (suc n) x y =
    let rest = difference_times n x y in
    let of_x = more_times x n in
    let of_y = more_times y n in
    let of_both = more_times (x -ℤ y) n in
    omega (arith, ints, rest, of_x, of_y, of_both)

pub told_by_product : (k : ℕ) (x y : ℤ) → 1 ≤ k → x *ℤ pos k ≡ y *ℤ pos k → x ≡ y
told_by_product k x y some e =
    let parts = difference_times k x y in
    let none = zero_times k (x -ℤ y) some (omega (arith, ints, parts, e)) in
    omega (arith, ints, none)

pub told_by_sum : (by x y : ℤ) → x +ℤ by ≡ y +ℤ by → x ≡ y
told_by_sum by x y e = omega (arith, ints, e)

pub told_by_quotient : (k : ℕ) (x y : ℤ) → int_rem x (pos k) ≡ pos 0 → int_rem y (pos k) ≡ pos 0 → int_div x (pos k) ≡ int_div y (pos k) → x ≡ y
told_by_quotient k x y ex ey e = sym (exact_quotient x (pos k) ex) ∙ (ap (λ (z : ℤ). z *ℤ pos k) e ∙ exact_quotient y (pos k) ey)

-- ---- other values

-- values that differ where they did, at the same runs
pub record IsChanged (f : ℤ → ℤ) (ends : List ℕ) (values now : List ℤ) : Type 0 where
  pub longest : AreLongest ends now
  pub few : length (all_items ends now) ≤ MOST_ITEMS
  pub items : all_items ends now ≡ map f (all_items ends values)

changed : (f : ℤ → ℤ) (P : ℤ → Type 0) → ((x y : ℤ) → P x → P y → f x ≡ f y → x ≡ y) → (ends : List ℕ) (values now sums : List ℤ) → IsColumn ends values sums → All P (all_items ends values) → now ≡ map f values → IsChanged f ends values now
changed f P told ends values now sums column all is = rw is (record {
  longest = mapped f P told 0 None ends values column.longest tt (by_recursion P values (values_all P ends values column.longest (same_count 0 None ends values column.longest) all));
  few = omega (arith, ap length (items-map f 0 ends values), length-map (all_items ends values) f, column.few);
  items = items-map f 0 ends values;
})
  where
    by_recursion : (Q : ℤ → Type 0) (xs : List ℤ) → All Q xs → AllByRecursion Q xs
    by_recursion Q [] every = tt
    by_recursion Q (x ∷ xs) every = (every 0 x (omega arith), by_recursion Q xs (λ i d lt. every (suc i) d (omega (arith, lt))))

pub shifted : (by : ℤ) (ends : List ℕ) (values now sums : List ℤ) → IsColumn ends values sums → now ≡ map (λ x. x +ℤ by) values → IsChanged (λ x. x +ℤ by) ends values now
shifted by ends values now sums column is = changed (λ x. x +ℤ by) (λ x. Unit {0}) (λ x y p q e. told_by_sum by x y e) ends values now sums column (λ i d lt. tt) is

pub scaled : (k : ℕ) (ends : List ℕ) (values now sums : List ℤ) → 1 ≤ k → IsColumn ends values sums → now ≡ map (λ x. x *ℤ pos k) values → IsChanged (λ x. x *ℤ pos k) ends values now
scaled k ends values now sums some column is = changed (λ x. x *ℤ pos k) (λ x. Unit {0}) (λ x y p q e. told_by_product k x y some e) ends values now sums column (λ i d lt. tt) is

pub divided : (k : ℕ) (ends : List ℕ) (values now sums : List ℤ) → IsColumn ends values sums → All (λ x. int_rem x (pos k) ≡ pos 0) (all_items ends values) → now ≡ map (λ x. int_div x (pos k)) values
    → IsChanged (λ x. int_div x (pos k)) ends values now
divided k ends values now sums column whole is = changed (λ x. int_div x (pos k)) (λ x. int_rem x (pos k) ≡ pos 0) (λ x y p q e. told_by_quotient k x y p q e) ends values now sums column whole is

-- with the sums of the changed items it is a column
pub changed_column : (f : ℤ → ℤ) (ends : List ℕ) (values now sums later : List ℤ) → IsChanged f ends values now → IsColumn ends values sums → length later ≡ length sums
    → ((at : ℕ) → at < length sums → start_at ends (16 * at) ≤ length (all_items ends values) → IsSum (all_items ends values) (start_at ends (16 * at)) (get_or sums at (pos 0))
    → IsSum (map f (all_items ends values)) (start_at ends (16 * at)) (get_or later at (pos 0)))
    → IsColumn ends now later
changed_column f ends values now sums later change column same each = record {
  longest = change.longest;
  few = change.few;
  sums = subst (λ (items : List ℤ). AreSums (length ends) ends items later) (sym change.items) (record {
    count = same ∙ column.sums.count;
    each = λ at lt.
        let inside : at < length sums = omega (arith, lt, same) in
        each at inside (starts_inside ends values (16 * at) column.longest (omega (arith, inside, column.sums.count))) (column.sums.each at inside);
  });
}

pub scaled_column : (k : ℕ) (ends : List ℕ) (values now sums later : List ℤ) → 1 ≤ k → IsColumn ends values sums → All (λ x. FitsSigned w64 (x *ℤ pos k)) (all_items ends values) → now ≡ map (λ x. x *ℤ pos k) values → later ≡ map (λ x. x *ℤ pos k) sums
    → IsColumn ends now later
scaled_column k ends values now sums later some column fits is sums_are =
    let f = λ (x : ℤ). x *ℤ pos k in
    changed_column f ends values now sums later (scaled k ends values now sums some column is) column (ap length sums_are ∙ length-map sums f) (λ at lt le sum.
    let now_is : get_or later at (pos 0) ≡ get_or sums at (pos 0) *ℤ pos k = ap (λ (xs : List ℤ). get_or xs at (pos 0)) sums_are ∙ get_or-map f sums at (pos 0) (pos 0) lt in
    subst (λ (x : ℤ). IsSum (map f (all_items ends values)) (start_at ends (16 * at)) x) (sym now_is) (scaled_sum k (start_at ends (16 * at)) (all_items ends values) (get_or sums at (pos 0)) le fits sum))

pub divided_column : (k : ℕ) (ends : List ℕ) (values now sums later : List ℤ) → 1 ≤ k → IsColumn ends values sums → All (λ x. int_rem x (pos k) ≡ pos 0) (all_items ends values) → now ≡ map (λ x. int_div x (pos k)) values → later ≡ map (λ x. int_div x (pos k)) sums
    → IsColumn ends now later
divided_column k ends values now sums later some column whole is sums_are =
    let f = λ (x : ℤ). int_div x (pos k) in
    changed_column f ends values now sums later (divided k ends values now sums column whole is) column (ap length sums_are ∙ length-map sums f) (λ at lt le sum.
    let now_is : get_or later at (pos 0) ≡ int_div (get_or sums at (pos 0)) (pos k) = ap (λ (xs : List ℤ). get_or xs at (pos 0)) sums_are ∙ get_or-map f sums at (pos 0) (pos 0) lt in
    subst (λ (x : ℤ). IsSum (map f (all_items ends values)) (start_at ends (16 * at)) x) (sym now_is) (divided_sum k (start_at ends (16 * at)) (all_items ends values) (get_or sums at (pos 0)) some whole sum))

pub shifted_column : (by : ℤ) (ends : List ℕ) (values now sums later : List ℤ) → IsColumn ends values sums → All (λ x. FitsSigned w64 (x +ℤ by)) (all_items ends values) → now ≡ map (λ x. x +ℤ by) values → length later ≡ length sums
    → ((at : ℕ) → at < length sums → get_or later at (pos 0) ≡ get_or sums at (pos 0) +ℤ (by *ℤ pos (start_at ends (16 * at))))
    → IsColumn ends now later
shifted_column by ends values now sums later column fits is same each =
    let f = λ (x : ℤ). x +ℤ by in
    changed_column f ends values now sums later (shifted by ends values now sums column is) column same (λ at lt le sum.
    subst (λ (x : ℤ). IsSum (map f (all_items ends values)) (start_at ends (16 * at)) x) (sym (each at lt)) (shifted_sum by (start_at ends (16 * at)) (all_items ends values) (get_or sums at (pos 0)) le fits sum))

-- each sum that is kept fits where it is kept
pub kept_sum : (ends : List ℕ) (values sums : List ℤ) (P : ℤ → Type 0) → IsColumn ends values sums → ((n : ℕ) (sum : ℤ) → n ≤ length (all_items ends values) → IsSum (all_items ends values) n sum → P sum) → All P sums
kept_sum ends values sums P column hold at d lt =
    subst P (get_or_default sums at (pos 0) d lt) (hold (start_at ends (16 * at)) (get_or sums at (pos 0)) (starts_inside ends values (16 * at) column.longest (omega (arith, lt, column.sums.count))) (column.sums.each at lt))

-- ---- all items are 0

pub no_items : (xs : List ℤ) (x : ℤ) → length xs ≡ 0 → xs ≡ replicate (length xs) x
no_items [] x none = refl
no_items (y ∷ ys) x none = absurd (omega (arith, none))

pub flattened : (ends : List ℕ) (values : List ℤ) (len : ℕ) (x : ℤ) → AreLongest ends values → (start_at ends (length ends) ≡ 0 → ⊥) → all_items (set (take 1 ends) 0 len) (set (take 1 values) 0 x) ≡ replicate len x
flattened [] values len x longest some = absurd (some refl)
flattened (end ∷ ends) [] len x longest some = absurd longest
flattened (end ∷ ends) (value ∷ values) len x longest some =
    let whole : len - 0 ≡ len = omega arith in
    append-nil (replicate (len - 0) x) ∙ ap (λ (n : ℕ). replicate n x) whole

pub times_none : (k : ℕ) (xs : List ℤ) → k ≡ 0 → map (λ x. x *ℤ pos k) xs ≡ replicate (length xs) (pos 0)
times_none k [] none = refl
times_none k (x ∷ xs) none =
    let first : x *ℤ pos k ≡ pos 0 = rw none (omega (arith, ints)) in
    ap (λ (y : ℤ). y ∷ map (λ z. z *ℤ pos k) xs) first ∙ ap (λ (ys : List ℤ). pos 0 ∷ ys) (times_none k xs none)

-- A column is gone over run by run: what is done so far, and what is left.
use Rattle.std.proofs.Common.{◌≡◌, ℕ, zero, suc, ◌+◌, ◌-◌, ◌<◌, ◌≤◌, Bool, true, false, ◌&&◌, List, [], ◌∷◌, ◌++◌, length, replicate, map, drop, get_or, ℤ, pos, refl, sym, ap, subst, ◌∙◌, arith}
use Rattle.std.specs.Prelude.{All}
use Rattle.std.specs.List.{list_all}
use Rattle.std.specs.Int.{w32, cast_unsigned}
use Rattle.std.proofs.lemmas.List.{drop_all, get_or-drop, length-replicate}
use Rattle.std.specs.declared.alloc.Global.{Global}
use Rattle.std.specs.declared.vec.Vec.{Vec}
use Rattle.mp_boxes.specs.declared.field.Field.TheVariants.{U32}
use Rattle.mp_boxes.specs.Field.{body_bytes}
use Rattle.mp_boxes.specs.Push.{ArePushed, IsLeft, IsPushed, IsPushing}
use Rattle.mp_columns.specs.declared.run.Run.{Run}
use Rattle.mp_columns.specs.Runs.{IsLongestRun, runs, stretch_of}
use Rattle.mp_columns.specs.Stretch.{Stretch}
use Rattle.mp_times.specs.Written.{run_row}

-- a test of all items, over equal items and the rest
list_all-copies : (test : ℤ → Bool) (n : ℕ) (x : ℤ) (ys : List ℤ) → list_all test (replicate (suc n) x ++ ys) ≡ (test x && list_all test ys)
list_all-copies test zero x ys = refl
list_all-copies test (suc n) x ys = ap (λ (b : Bool). test x && b) (list_all-copies test n x ys) ∙ by (test x)
  where
    by : (b : Bool) → (b && (b && list_all test ys)) ≡ (b && list_all test ys)
    by true = refl
    by false = refl

-- the items of a run, its first apart
first_apart : (xs : List ℤ) (from to : ℕ) (run : Run) → IsLongestRun xs from to run → drop from xs ≡ replicate (suc (run.count - 1)) run.value ++ drop to xs
first_apart xs from to run is =
    let some = is.some in
    let count : run.count ≡ suc (run.count - 1) = omega arith in
    is.equal ∙ ap (λ (k : ℕ). replicate k run.value ++ drop to xs) count

list_all-run : (test : ℤ → Bool) (xs : List ℤ) (from to : ℕ) (run : Run) → IsLongestRun xs from to run → list_all test (drop from xs) ≡ (test run.value && list_all test (drop to xs))
list_all-run test xs from to run is =
    ap (list_all test) (first_apart xs from to run is) ∙ list_all-copies test (run.count - 1) run.value (drop to xs)

-- what holds of each item holds of the items of a run
pub run_meets : (P : ℤ → Type 0) (xs : List ℤ) (from to : ℕ) (run : Run) → All P xs → IsLongestRun xs from to run → P run.value
run_meets P xs from to run all is =
    let some = is.some in
    let inside = is.inside in
    let end = is.end in
    let front : get_or (drop from xs) 0 (pos 0) ≡ run.value = ap (λ (ys : List ℤ). get_or ys 0 (pos 0)) (first_apart xs from to run is) in
    let here : get_or xs from (pos 0) ≡ run.value = ap (λ (i : ℕ). get_or xs i (pos 0)) (omega arith) ∙ (sym (get_or-drop from xs 0 (pos 0)) ∙ front) in
    subst P here (all from (pos 0) (omega arith))

-- the row of a run
row_of_run : (run : Run) → 0 < run.count → run_row (stretch_of run) ≡ U32 run.count ∷ U32 (cast_unsigned w32 run.value) ∷ []
row_of_run run some = let count : suc (length (replicate (run.count - 1) run.value)) ≡ run.count = omega (arith, length-replicate (run.count - 1) run.value) in rw count refl

-- ---- the survey

-- the runs before `place` are counted, and their values tested
pub record IsSurveyed (tests : ℤ → Bool) (others : ℤ → Bool) (xs : List ℤ) (place count : ℕ) (so_far others_so_far : Bool) : Type 0 where
  pub inside : place ≤ length xs
  pub few : count ≤ place
  pub counted : count + length (runs (drop place xs)) ≡ length (runs xs)
  pub tested : (so_far && list_all tests (drop place xs)) ≡ list_all tests xs
  pub others_tested : (others_so_far && list_all others (drop place xs)) ≡ list_all others xs

pub nothing_surveyed : (tests others : ℤ → Bool) (xs : List ℤ) → IsSurveyed tests others xs 0 0 true true
nothing_surveyed tests others xs = record { inside = omega arith; few = omega arith; counted = omega arith; tested = refl; others_tested = refl }

and_more : (so_far test rest whole : Bool) → (so_far && (test && rest)) ≡ whole → ((so_far && test) && rest) ≡ whole
and_more true test rest whole e = e
and_more false test rest whole e = e

pub run_is_surveyed : {tests others : ℤ → Bool} {xs : List ℤ} {place to count : ℕ} {so_far others_so_far : Bool} (run : Run) → IsSurveyed tests others xs place count so_far others_so_far
    → IsLongestRun xs place to run → runs (drop place xs) ≡ stretch_of run ∷ runs (drop to xs) → IsSurveyed tests others xs to (count + 1) (so_far && tests run.value) (others_so_far && others run.value)
run_is_surveyed {tests} {others} {xs} {place} {to} {so_far = so_far} {others_so_far} run walked is first =
    let few = walked.few in
    let some = is.some in
    let end = is.end in
    record {
      inside = is.inside;
      few = omega arith;
      counted = omega (arith, walked.counted, ap length first);
      tested = and_more so_far (tests run.value) _ _ (ap (λ (b : Bool). so_far && b) (sym (list_all-run tests xs place to run is)) ∙ walked.tested);
      others_tested = and_more others_so_far (others run.value) _ _ (ap (λ (b : Bool). others_so_far && b) (sym (list_all-run others xs place to run is)) ∙ walked.others_tested);
    }

-- the whole column is surveyed
pub record IsWhole (tests others : ℤ → Bool) (xs : List ℤ) (count : ℕ) (all all_others : Bool) : Type 0 where
  pub counted : count ≡ length (runs xs)
  pub tested : all ≡ list_all tests xs
  pub others_tested : all_others ≡ list_all others xs

and_true : (b whole : Bool) → (b && true) ≡ whole → b ≡ whole
and_true true whole e = e
and_true false whole e = e

pub all_is_surveyed : {tests others : ℤ → Bool} {xs : List ℤ} {place count : ℕ} {so_far others_so_far : Bool} → IsSurveyed tests others xs place count so_far others_so_far → place ≡ length xs
    → IsWhole tests others xs count so_far others_so_far
all_is_surveyed {tests} {others} {xs} {place} {count} {so_far} {others_so_far} walked past =
    let none : drop place xs ≡ [] = drop_all place xs (omega arith) in
    record {
      counted = omega (arith, walked.counted, ap (λ (ys : List ℤ). length (runs ys)) none);
      tested = and_true so_far _ (ap (λ (ys : List ℤ). so_far && list_all tests ys) (sym none) ∙ walked.tested);
      others_tested = and_true others_so_far _ (ap (λ (ys : List ℤ). others_so_far && list_all others ys) (sym none) ∙ walked.others_tested);
    }

-- ---- the rows

-- the bytes of the rows of runs
abbrev pub row_texts : List (Stretch ℤ) → List (List ℕ)
row_texts found = map body_bytes (map run_row found)

-- the row that comes next is pushed
pub row_pushed : {xs : List ℤ} {from to bits : ℕ} {start now new : Vec ℕ Global} (texts : List (List ℕ)) (run : Run) → IsLongestRun xs from to run → runs (drop from xs) ≡ stretch_of run ∷ runs (drop to xs)
    → bits ≡ cast_unsigned w32 run.value → IsLeft start now texts (row_texts (runs (drop from xs))) → IsPushed now new (body_bytes (U32 run.count ∷ U32 bits ∷ [])) → IsLeft start new texts (row_texts (runs (drop to xs)))
row_pushed {xs} {from} {to} {bits} {now = now} texts run is first bits_are left pushed = λ rest all p.
    let row : body_bytes (run_row (stretch_of run)) ≡ body_bytes (U32 run.count ∷ U32 bits ∷ []) = ap body_bytes (row_of_run run is.some ∙ ap (λ (n : ℕ). U32 run.count ∷ U32 n ∷ []) (sym bits_are)) in
    let next : row_texts (runs (drop from xs)) ++ rest ≡ body_bytes (U32 run.count ∷ U32 bits ∷ []) ∷ (row_texts (runs (drop to xs)) ++ rest) =
    ap (λ (found : List (Stretch ℤ)). row_texts found ++ rest) first ∙ ap (λ (text : List ℕ). text ∷ (row_texts (runs (drop to xs)) ++ rest)) row in
    pushed (row_texts (runs (drop to xs)) ++ rest) all (subst (λ (pieces : List (List ℕ)). IsPushing now pieces all) next (left rest all p))

pub rows_pushed : (xs : List ℤ) {from : ℕ} {start now : Vec ℕ Global} (texts : List (List ℕ)) → from ≡ length xs → IsLeft start now texts (row_texts (runs (drop from xs))) → ArePushed start now texts
rows_pushed xs {from} {now = now} texts past left = λ rest all p.
    subst (λ (pieces : List (List ℕ)). IsPushing now pieces all) (ap (λ (ys : List ℤ). row_texts (runs ys) ++ rest) (drop_all from xs (omega arith))) (left rest all p)

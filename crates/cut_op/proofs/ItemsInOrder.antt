-- The items of a column, one after another, by the runs that they stand in.
use Rattle.std.proofs.Common.{rules, ◌≡◌, ℕ, zero, suc, ◌+◌, ◌-◌, ◌<◌, ◌≤◌, List, [], ◌∷◌, ◌++◌, length, replicate, drop, get_or, ℤ, pos, refl, sym, ap, subst, ◌∙◌, arith}
use Rattle.std.proofs.lemmas.List.{drop_more}
use Rattle.mp_columns.specs.declared.run.Run.{Run}
use Rattle.mp_columns.specs.Runs.{IsLongestRun}
use Rattle.cut_op.specs.Items.{AreLeft}

abbrev head_of : ℤ → List ℤ → ℤ
head_of other [] = other
head_of other (x ∷ xs) = x

abbrev tail_of : List ℤ → List ℤ
tail_of [] = []
tail_of (x ∷ xs) = xs

-- one item of the run
one_of : (n : ℕ) (v : ℤ) (rest : List ℤ) → 0 < n → replicate n v ++ rest ≡ v ∷ (replicate (n - 1) v ++ rest)
one_of zero v rest some = absurd (omega arith)
one_of (suc n) v rest some = let back : n ≡ suc n - 1 = omega arith in ap (λ (k : ℕ). v ∷ (replicate k v ++ rest)) back

pub next_item : (items : List ℤ) (place cursor : ℕ) (run after : Run) → place < length items → 0 < run.count → AreLeft items place cursor run → after ≡ record run { count = run.count - 1 }
    → (run.value ≡ get_or items place (pos 0)) × AreLeft items (place + 1) cursor after
next_item items place cursor run after lt some left after_is =
    let here : get_or items place (pos 0) ∷ drop (place + 1) items ≡ run.value ∷ (replicate (run.count - 1) run.value ++ drop cursor items) =
    sym (drop_more items place (pos 0) lt) ∙ (left.left ∙ one_of run.count run.value (drop cursor items) some) in
    let value : run.value ≡ get_or items place (pos 0) = sym (ap (head_of (pos 0)) here) in
    let count : cursor ≡ place + 1 + (run.count - 1) = omega (arith, some, left.end) in
    (value, subst (AreLeft items (place + 1) cursor) (sym after_is) (record { end = count; inside = left.inside; left = ap tail_of here }))

-- the next run, where the one before is read
pub next_run_left : (items : List ℤ) (place cursor to : ℕ) (run next : Run) → run.count ≡ 0 → AreLeft items place cursor run → IsLongestRun items cursor to next → AreLeft items place to next
next_run_left items place cursor to run next none left is =
    let here : cursor ≡ place = omega (arith, left.end, none) in
    record {
      end = is.end ∙ ap (λ (x : ℕ). x + next.count) here;
      inside = is.inside;
      left = ap (λ (x : ℕ). drop x items) (sym here) ∙ is.equal;
    }

-- there is one, where an item is left
pub some_run_left : (items : List ℤ) (place cursor : ℕ) (run : Run) → run.count ≡ 0 → AreLeft items place cursor run → place < length items → cursor ≡ length items → ⊥
some_run_left items place cursor run none left lt all = omega (arith, left.end, none, lt, all)

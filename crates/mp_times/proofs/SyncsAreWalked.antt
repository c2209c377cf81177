-- The numbers of sync samples, run by run.
use Rattle.std.proofs.Common.{◌≡◌, ℕ, zero, suc, ◌+◌, ◌-◌, ◌<◌, ◌≤◌, false, List, [], ◌∷◌, ◌++◌, length, replicate, map, drop, ℤ, pos, refl, sym, ap, subst, ◌∙◌, arith, rules}
use Rattle.std.specs.List.{range_with_len}
use Rattle.std.proofs.lemmas.Bool.Decides.{Decides-int_eq}
use Rattle.std.proofs.lemmas.List.{drop_all}
use Rattle.std.specs.declared.alloc.Global.{Global}
use Rattle.std.specs.declared.vec.Vec.{Vec}
use Rattle.mp_boxes.specs.Field.{body_bytes}
use Rattle.mp_boxes.specs.Push.{ArePushed, IsLeft, IsPushed, IsPushing}
use Rattle.mp_columns.specs.declared.run.Run.{Run}
use Rattle.mp_columns.specs.Runs.{IsLongestRun}
use Rattle.mp_times.specs.Sync.{is_sync}
use Rattle.mp_times.specs.Written.{sync_numbers, sync_row}

-- equal marks, and what follows them
sync_copies : (n number : ℕ) (ys : List ℤ) → sync_numbers number (replicate n (pos 1) ++ ys) ≡ range_with_len number n ++ sync_numbers (number + n) ys
sync_copies zero number ys = ap (λ (k : ℕ). sync_numbers k ys) (omega arith)
sync_copies (suc n) number ys = ap (λ (ns : List ℕ). number ∷ ns) (sync_copies n (number + 1) ys ∙ ap (λ (k : ℕ). range_with_len (number + 1) n ++ sync_numbers k ys) (omega arith))

other_copies : (n number : ℕ) (x : ℤ) (ys : List ℤ) → is_sync x ≡ false → sync_numbers number (replicate n x ++ ys) ≡ sync_numbers (number + n) ys
other_copies zero number x ys other = ap (λ (k : ℕ). sync_numbers k ys) (omega arith)
other_copies (suc n) number x ys other = rw other (other_copies n (number + 1) x ys other ∙ ap (λ (k : ℕ). sync_numbers k ys) (omega arith))

behind : (from to count : ℕ) → to ≡ from + count → from + 1 + count ≡ to + 1
behind from to count e = omega arith

pub sync_run : (xs : List ℤ) (from to : ℕ) (run : Run) → IsLongestRun xs from to run → run.value ≡ pos 1
    → sync_numbers (from + 1) (drop from xs) ≡ range_with_len (from + 1) run.count ++ sync_numbers (to + 1) (drop to xs)
sync_run xs from to run is e =
    ap (sync_numbers (from + 1)) (is.equal ∙ ap (λ (x : ℤ). replicate run.count x ++ drop to xs) e)
    ∙ (sync_copies run.count (from + 1) (drop to xs) ∙ ap (λ (k : ℕ). range_with_len (from + 1) run.count ++ sync_numbers k (drop to xs)) (behind from to run.count is.end))

pub other_run : (xs : List ℤ) (from to : ℕ) (run : Run) → IsLongestRun xs from to run → (run.value ≡ pos 1 → ⊥) → sync_numbers (from + 1) (drop from xs) ≡ sync_numbers (to + 1) (drop to xs)
other_run xs from to run is ne =
    ap (sync_numbers (from + 1)) is.equal
    ∙ (other_copies run.count (from + 1) run.value (drop to xs) (search (rules, Decides-int_eq run.value (pos 1))) ∙ ap (λ (k : ℕ). sync_numbers k (drop to xs)) (behind from to run.count is.end))

none_left : (xs : List ℤ) (from : ℕ) → from ≡ length xs → sync_numbers (from + 1) (drop from xs) ≡ []
none_left xs from e = rw (drop_all from xs (omega arith)) refl

-- ---- the numbers

-- the bytes of the rows of numbers
abbrev pub number_texts : List ℕ → List (List ℕ)
number_texts numbers = map body_bytes (map sync_row numbers)

apart : (first second : List ℕ) (rest : List (List ℕ)) → number_texts (first ++ second) ++ rest ≡ number_texts first ++ (number_texts second ++ rest)
apart [] second rest = refl
apart (number ∷ first) second rest = ap (λ (texts : List (List ℕ)). body_bytes (sync_row number) ∷ texts) (apart first second rest)

-- the numbers of a run of sync samples are pushed
pub run_pushed : {xs : List ℤ} {from to first : ℕ} {start now new : Vec ℕ Global} (texts : List (List ℕ)) (run : Run) → IsLongestRun xs from to run → run.value ≡ pos 1 → first ≡ from + 1
    → IsLeft start now texts (number_texts (sync_numbers (from + 1) (drop from xs))) → ArePushed now new (number_texts (range_with_len first run.count)) → IsLeft start new texts (number_texts (sync_numbers (to + 1) (drop to xs)))
run_pushed {xs} {from} {to} {first} {now = now} texts run is e place left pushed = λ rest all p.
    let next : number_texts (sync_numbers (from + 1) (drop from xs)) ++ rest ≡ number_texts (range_with_len first run.count) ++ (number_texts (sync_numbers (to + 1) (drop to xs)) ++ rest) =
    ap (λ (numbers : List ℕ). number_texts numbers ++ rest) (sync_run xs from to run is e ∙ ap (λ (n : ℕ). range_with_len n run.count ++ sync_numbers (to + 1) (drop to xs)) (sym place))
    ∙ apart (range_with_len first run.count) (sync_numbers (to + 1) (drop to xs)) rest in
    pushed (number_texts (sync_numbers (to + 1) (drop to xs)) ++ rest) all (subst (λ (pieces : List (List ℕ)). IsPushing now pieces all) next (left rest all p))

-- a run of others has none
pub run_passed : {xs : List ℤ} {from to : ℕ} {start now : Vec ℕ Global} (texts : List (List ℕ)) (run : Run) → IsLongestRun xs from to run → (run.value ≡ pos 1 → ⊥)
    → IsLeft start now texts (number_texts (sync_numbers (from + 1) (drop from xs))) → IsLeft start now texts (number_texts (sync_numbers (to + 1) (drop to xs)))
run_passed {xs} {from} {to} {now = now} texts run is ne left = λ rest all p.
    subst (λ (pieces : List (List ℕ)). IsPushing now pieces all) (ap (λ (numbers : List ℕ). number_texts numbers ++ rest) (other_run xs from to run is ne)) (left rest all p)

pub numbers_pushed : (xs : List ℤ) {from : ℕ} {start now : Vec ℕ Global} (texts : List (List ℕ)) → from ≡ length xs → IsLeft start now texts (number_texts (sync_numbers (from + 1) (drop from xs))) → ArePushed start now texts
numbers_pushed xs {from} {now = now} texts past left = λ rest all p.
    subst (λ (pieces : List (List ℕ)). IsPushing now pieces all) (ap (λ (numbers : List ℕ). number_texts numbers ++ rest) (none_left xs from past)) (left rest all p)

-- ---- numbers in a row

range_more : (number end : ℕ) → number < end → range_with_len number (end - number) ≡ number ∷ range_with_len (number + 1) (end - (number + 1))
range_more number end lt = let one : end - number ≡ suc (end - (number + 1)) = omega arith in rw one refl

range_done : (number end : ℕ) → end ≤ number → range_with_len number (end - number) ≡ []
range_done number end le = let none : end - number ≡ 0 = omega arith in rw none refl

pub number_pushed : {number end : ℕ} {start now new : Vec ℕ Global} (texts : List (List ℕ)) → number < end → IsLeft start now texts (number_texts (range_with_len number (end - number)))
    → IsPushed now new (body_bytes (sync_row number)) → IsLeft start new texts (number_texts (range_with_len (number + 1) (end - (number + 1))))
number_pushed {number} {end} {now = now} texts lt left pushed = λ rest all p.
    pushed _ all (subst (λ (numbers : List ℕ). IsPushing now (number_texts numbers ++ rest) all) (range_more number end lt) (left rest all p))

pub range_pushed : {number end : ℕ} {start now : Vec ℕ Global} (texts : List (List ℕ)) → end ≤ number → IsLeft start now texts (number_texts (range_with_len number (end - number))) → ArePushed start now texts
range_pushed {number} {end} {now = now} texts le left = λ rest all p. subst (λ (numbers : List ℕ). IsPushing now (number_texts numbers ++ rest) all) (range_done number end le) (left rest all p)

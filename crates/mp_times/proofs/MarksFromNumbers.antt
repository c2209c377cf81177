-- Numbers that rise give the mark of each sample, read one after another.
use Rattle.std.proofs.Common.{◌≡◌, ℕ, zero, suc, ◌+◌, ◌-◌, ◌*◌, ◌<◌, ◌≤◌, Bool, true, false, ltb, leb, eqb, ◌&&◌, List, [], ◌∷◌, ◌++◌, length, replicate, drop, map, ℤ, pos, refl, sym, ap, ◌∙◌, append_assoc, add-zero, arith, Some, None, Ok, Err, inl, inr}
use Rattle.std.specs.Prelude.{Option, Result, ◌⊎◌}
use Rattle.std.proofs.Math.Nat.{zero-add}
use Rattle.std.specs.List.{list_any, range_with_len}
use Rattle.std.proofs.lemmas.Bool.{and_parts, false≢true, lt-ltb, le-ltb, le-leb, lt-leb, ltb-true, leb-true, eq-eqb, ne_eqb}
use Rattle.std.proofs.lemmas.List.{map-append, length-append, length-replicate}
use Rattle.mp_ports.specs.declared.code.Code.{Code}
use Rattle.mp_ports.specs.declared.code.Code.TheVariants.{SyncOrder}
use Rattle.mp_ports.specs.declared.fault.Bad.{Bad}
use Rattle.mp_ports.specs.Checks.{bad_at, placed, unless}
use Rattle.mp_boxes.specs.Number.{u32_at}
use Rattle.mp_boxes.specs.FullBox.{row_count, rows_of, table_fault}
use Rattle.mp_times.specs.Sync.{is_rising, are_samples, mark, marks, numbers_of, order_fault, stss_of}
use Rattle.mp_times.proofs.EntriesFollow.{first_number, rows_from, rows_from-next, rows_from-none}

-- the numbers from index i on
unfoldable pub numbers_from : ℕ → List ℕ → ℕ → List ℕ
numbers_from rows body i = map (λ row. u32_at row 0) (rows_from 4 rows i body)

numbers_from-next : (rows : ℕ) (body : List ℕ) (i : ℕ) → i < rows → numbers_from rows body i ≡ u32_at body (8 + 4 * i) ∷ numbers_from rows body (i + 1)
unfolding numbers_from
numbers_from-next rows body i lt = ap (map (λ row. u32_at row 0)) (rows_from-next 4 rows i body lt) ∙ rw (first_number body (8 + 4 * i) 4 (omega arith)) refl

numbers_from-none : (rows : ℕ) (body : List ℕ) (i : ℕ) → rows ≤ i → numbers_from rows body i ≡ []
unfolding numbers_from
numbers_from-none rows body i le = rw (rows_from-none 4 rows i body le) refl

-- each number is greater than the one before it, the first is greater than `low`, and none is greater than `most`
unfoldable pub rise : ℕ → ℕ → List ℕ → Bool
rise low most [] = true
rise low most (number ∷ numbers) = ltb low number && (leb number most && rise number most numbers)

record IsNext (low most number : ℕ) (numbers : List ℕ) : Type 0 where
  above : low < number
  within : number ≤ most
  rest : rise number most numbers ≡ true

next_of : (low most number : ℕ) (numbers : List ℕ) → rise low most (number ∷ numbers) ≡ true → IsNext low most number numbers
unfolding rise
next_of low most number numbers e =
    let p = and_parts (ltb low number) (leb number most && rise number most numbers) e in
    let q = and_parts (leb number most) (rise number most numbers) p.1 in
    record { above = ltb-true low number p.0; within = leb-true number most q.0; rest = q.1 }

pub rise-next : (low most number : ℕ) (numbers : List ℕ) → low < number → number ≤ most → rise low most (number ∷ numbers) ≡ rise number most numbers
unfolding rise
rise-next low most number numbers above within = rw (lt-ltb low number above, le-leb number most within) refl

rise-low : (low most number : ℕ) (numbers : List ℕ) → number ≤ low → rise low most (number ∷ numbers) ≡ false
unfolding rise
rise-low low most number numbers le = rw (le-ltb low number le) refl

rise-high : (low most number : ℕ) (numbers : List ℕ) → most < number → rise low most (number ∷ numbers) ≡ false
unfolding rise
rise-high low most number numbers lt = by (ltb low number)
  where
    by : (b : Bool) → (b && (leb number most && rise number most numbers)) ≡ false
    by true = rw (lt-leb number most lt) refl
    by false = refl

-- ---- that is rising, and being those of samples

pub rise-none : (low most : ℕ) → rise low most [] ≡ true
unfolding rise
rise-none low most = refl

pub rising : (low most : ℕ) (numbers : List ℕ) → rise low most numbers ≡ true → is_rising numbers ≡ true
rising low most [] e = refl
rising low most (number ∷ []) e = refl
rising low most (number ∷ next ∷ rest) e =
    let n = next_of low most number (next ∷ rest) e in
    let m = next_of number most next rest n.rest in
    rw (lt-ltb number next m.above) (rising number most (next ∷ rest) n.rest)

pub of_samples : (low most : ℕ) (numbers : List ℕ) → rise low most numbers ≡ true → are_samples most numbers ≡ true
of_samples low most [] e = refl
of_samples low most (number ∷ numbers) e =
    let n = next_of low most number numbers e in
    let above = n.above in
    rw (le-leb 1 number (omega arith), le-leb number most n.within) (of_samples number most numbers n.rest)

rise_from : (low most : ℕ) (numbers : List ℕ) → is_rising (low ∷ numbers) ≡ true → are_samples most numbers ≡ true → rise low most numbers ≡ true
unfolding rise
rise_from low most [] r s = refl
rise_from low most (number ∷ numbers) r s =
    let p = and_parts (ltb low number) (is_rising (number ∷ numbers)) r in
    let q = and_parts (leb 1 number && leb number most) (are_samples most numbers) s in
    let t = and_parts (leb 1 number) (leb number most) q.0 in
    rw (p.0, t.1) (rise_from number most numbers p.1 q.1)

from_zero : (most : ℕ) (numbers : List ℕ) → is_rising numbers ≡ true → are_samples most numbers ≡ true → rise 0 most numbers ≡ true
unfolding rise
from_zero most [] r s = refl
from_zero most (number ∷ numbers) r s =
    let q = and_parts (leb 1 number && leb number most) (are_samples most numbers) s in
    let t = and_parts (leb 1 number) (leb number most) q.0 in
    let some = leb-true 1 number t.0 in
    rise_from 0 most (number ∷ numbers) (rw (lt-ltb 0 number (omega arith)) r) s

-- ---- the marks

-- the marks of the samples behind `low`
unfoldable pub gaps : ℕ → ℕ → List ℕ → List ℤ
gaps low most [] = replicate (most - low) (pos 0)
gaps low most (number ∷ numbers) = replicate (number - 1 - low) (pos 0) ++ (pos 1 ∷ gaps number most numbers)

gaps-none : (low most : ℕ) → gaps low most [] ≡ replicate (most - low) (pos 0)
unfolding gaps
gaps-none low most = refl

gaps-next : (items all : List ℤ) (low most number : ℕ) (numbers : List ℕ) → items ++ gaps low most (number ∷ numbers) ≡ all
    → ((items ++ replicate (number - 1 - low) (pos 0)) ++ pos 1 ∷ []) ++ gaps number most numbers ≡ all
unfolding gaps
gaps-next items all low most number numbers e =
    append_assoc (items ++ replicate (number - 1 - low) (pos 0)) (pos 1 ∷ []) (gaps number most numbers) ∙ (append_assoc items (replicate (number - 1 - low) (pos 0)) (pos 1 ∷ gaps number most numbers) ∙ e)

range-split : (a k m : ℕ) → range_with_len a (k + m) ≡ range_with_len a k ++ range_with_len (a + k) m
range-split a zero m = rw (zero-add m, add-zero a) refl
range-split a (suc k) m =
    let one : suc k + m ≡ suc (k + m) = omega arith in
    ap (range_with_len a) one ∙ ap (λ (ys : List ℕ). a ∷ ys) (range-split (a + 1) k m ∙ ap (λ (b : ℕ). range_with_len (a + 1) k ++ range_with_len b m) (omega arith))

-- no number up to `low` stands among them
pub absent : (low most k : ℕ) (numbers : List ℕ) → k ≤ low → rise low most numbers ≡ true → list_any (λ sync. eqb sync k) numbers ≡ false
absent low most k [] le e = refl
absent low most k (number ∷ numbers) le e =
    let n = next_of low most number numbers e in
    let above = n.above in
    rw (ne_eqb number k (λ q. omega (arith, q, above, le))) (absent number most k numbers (omega arith) n.rest)

zeros_before : (a m most number : ℕ) (numbers : List ℕ) → a + m ≤ number → rise number most numbers ≡ true → map (mark (number ∷ numbers)) (range_with_len a m) ≡ replicate m (pos 0)
zeros_before a zero most number numbers le e = refl
zeros_before a (suc m) most number numbers le e =
    rw (ne_eqb number a (λ q. omega (arith, q, le)), absent number most a numbers (omega arith) e) (ap (λ (ys : List ℤ). pos 0 ∷ ys) (zeros_before (a + 1) m most number numbers (omega arith) e))

pub same_behind : (a m number : ℕ) (numbers : List ℕ) → number < a → map (mark (number ∷ numbers)) (range_with_len a m) ≡ map (mark numbers) (range_with_len a m)
same_behind a zero number numbers lt = refl
same_behind a (suc m) number numbers lt = rw (ne_eqb number a (λ q. omega (arith, q, lt))) (ap (λ (ys : List ℤ). mark numbers a ∷ ys) (same_behind (a + 1) m number numbers (omega arith)))

zeros : (a m : ℕ) → replicate m (pos 0) ≡ map (mark []) (range_with_len a m)
zeros a zero = refl
zeros a (suc m) = ap (λ (ys : List ℤ). pos 0 ∷ ys) (zeros (a + 1) m)

gaps-marks : (low most : ℕ) (numbers : List ℕ) → low ≤ most → rise low most numbers ≡ true → gaps low most numbers ≡ map (mark numbers) (range_with_len (low + 1) (most - low))
unfolding gaps
gaps-marks low most [] le e = zeros (low + 1) (most - low)
gaps-marks low most (number ∷ numbers) le e =
    let n = next_of low most number numbers e in
    let above = n.above in
    let within = n.within in
    let count : most - low ≡ number - 1 - low + suc (most - number) = omega arith in
    let at : low + 1 + (number - 1 - low) ≡ number = omega arith in
    let split : range_with_len (low + 1) (most - low) ≡ range_with_len (low + 1) (number - 1 - low) ++ range_with_len number (suc (most - number)) =
    ap (range_with_len (low + 1)) count ∙ (range-split (low + 1) (number - 1 - low) (suc (most - number)) ∙ ap (λ (b : ℕ). range_with_len (low + 1) (number - 1 - low) ++ range_with_len b (suc (most - number))) at) in
    let m = mark (number ∷ numbers) in
    let here : m number ≡ pos 1 = rw (eq-eqb number number refl) refl in
    let rest : map m (range_with_len (number + 1) (most - number)) ≡ gaps number most numbers = same_behind (number + 1) (most - number) number numbers (omega arith) ∙ sym (gaps-marks number most numbers within n.rest) in
    sym (
    ap (map m) split
    ∙ (map-append m (range_with_len (low + 1) (number - 1 - low)) (range_with_len number (suc (most - number)))
    ∙ (ap (λ (ys : List ℤ). ys ++ map m (range_with_len number (suc (most - number)))) (zeros_before (low + 1) (number - 1 - low) most number numbers (omega arith) n.rest)
    ∙ ap (λ (ys : List ℤ). replicate (number - 1 - low) (pos 0) ++ ys) (ap (λ (x : ℤ). x ∷ map m (range_with_len (number + 1) (most - number))) here ∙ ap (λ (ys : List ℤ). pos 1 ∷ ys) rest)))
    )

marks_read : (most : ℕ) (numbers : List ℕ) → rise 0 most numbers ≡ true → gaps 0 most numbers ≡ marks most numbers
marks_read most numbers e = gaps-marks 0 most numbers (omega arith) e ∙ ap (λ (n : ℕ). map (mark numbers) (range_with_len 1 n)) (omega arith)

-- ---- one number after another

-- the samples up to the number of row `i` are marked
pub record SamplesAreMarked (body : List ℕ) (rows samples i : ℕ) (items : List ℤ) : Type 0 where
  pub few : length items ≤ samples
  pub rises : rise (length items) samples (numbers_from rows body i) ≡ rise 0 samples (numbers_from rows body 0)
  pub marked : items ++ gaps (length items) samples (numbers_from rows body i) ≡ gaps 0 samples (numbers_from rows body 0)

pub none_is_marked : {body : List ℕ} {rows samples : ℕ} {items : List ℤ} → items ≡ [] → SamplesAreMarked body rows samples 0 items
none_is_marked e = rw e (record { few = omega arith; rises = refl; marked = refl })

pub sample_is_marked : {body : List ℕ} {rows samples i marked number : ℕ} {items zeros_too new : List ℤ} → SamplesAreMarked body rows samples i items → i < rows → marked ≡ length items → number ≡ u32_at body (8 + 4 * i)
    → marked < number → number ≤ samples → zeros_too ≡ items ++ replicate (number - 1 - marked) (pos 0) → new ≡ zeros_too ++ pos 1 ∷ [] → SamplesAreMarked body rows samples (i + 1) new
sample_is_marked {body} {rows} {samples} {i} {marked} {number} {items} {zeros_too} {new} so_far lt count is above within zeros_are new_is =
    let next : numbers_from rows body i ≡ number ∷ numbers_from rows body (i + 1) = rw (numbers_from-next rows body i lt, is) refl in
    let long : length new ≡ number =
    omega (arith, ap length new_is, ap length zeros_are, length-append zeros_too (pos 1 ∷ []), length-append items (replicate (number - 1 - marked) (pos 0)), length-replicate (number - 1 - marked) (pos 0)) in
    let rises = rw next at so_far.rises in
    let marks_are = rw (next, ← count) at so_far.marked in
    record {
      few = omega arith;
      rises = rw long (sym (rise-next (length items) samples number (numbers_from rows body (i + 1)) (omega arith) within) ∙ rises);
      marked = rw (long, new_is, zeros_are) (gaps-next items _ marked samples number (numbers_from rows body (i + 1)) marks_are);
    }

-- a number that isn't above those before it, or that is none of a sample
pub number_is_wrong : {body : List ℕ} {rows samples i marked number : ℕ} {items : List ℤ} → SamplesAreMarked body rows samples i items → i < rows → marked ≡ length items → number ≡ u32_at body (8 + 4 * i)
    → (number ≤ marked) ⊎ (samples < number) → rise 0 samples (numbers_from rows body 0) ≡ false
number_is_wrong {body} {rows} {samples} {i} {marked} {number} {items} so_far lt count is wrong =
    sym so_far.rises ∙ (ap (rise (length items) samples) (numbers_from-next rows body i lt) ∙ by wrong)
  where
    by : (number ≤ marked) ⊎ (samples < number) → rise (length items) samples (u32_at body (8 + 4 * i) ∷ numbers_from rows body (i + 1)) ≡ false
    by (inl low) = rise-low (length items) samples (u32_at body (8 + 4 * i)) (numbers_from rows body (i + 1)) (omega arith)
    by (inr high) = rise-high (length items) samples (u32_at body (8 + 4 * i)) (numbers_from rows body (i + 1)) (omega arith)

-- ---- the answer

-- a table whose number of rows is answered has no fault
no_fault : (base count rows : ℕ) (fault : Option Code) (answer : Result ℕ Bad) → answer ≡ placed base (unless fault count) → answer ≡ Ok rows → fault ≡ None
no_fault base count rows None answer is ok = refl
no_fault base count rows (Some code) answer is ok = absurd (cc)

order_some : (samples : ℕ) (numbers : List ℕ) → rise 0 samples numbers ≡ false → order_fault samples numbers ≡ Some SyncOrder
order_some samples numbers e = by (is_rising numbers) (are_samples samples numbers) refl refl
  where
    by : (r s : Bool) → is_rising numbers ≡ r → are_samples samples numbers ≡ s → order_fault samples numbers ≡ Some SyncOrder
    by false s p q = rw p refl
    by true false p q = rw (p, q) refl
    by true true p q = absurd (false≢true (sym e ∙ from_zero samples numbers p q))

numbers_from-all : (rows : ℕ) (body : List ℕ) → rows ≡ row_count body → numbers_from rows body 0 ≡ numbers_of body
unfolding numbers_from
numbers_from-all rows body is = let all : rows - 0 ≡ row_count body = omega arith in ap (λ (n : ℕ). map (λ row. u32_at row 0) (rows_of n 4 (drop 8 body))) all

pub numbers_are_refused : (base samples count rows : ℕ) (body : List ℕ) (answer : Result ℕ Bad) → answer ≡ placed base (unless (table_fault 0 4 body) count) → answer ≡ Ok rows → rows ≡ row_count body
    → rise 0 samples (numbers_from rows body 0) ≡ false → placed base (stss_of samples body) ≡ Err (bad_at SyncOrder base)
numbers_are_refused base samples count rows body answer found ok is wrong =
    rw (no_fault base count rows (table_fault 0 4 body) answer found ok, order_some samples (numbers_of body) (ap (rise 0 samples) (sym (numbers_from-all rows body is)) ∙ wrong)) refl

pub all_are_marked : (base samples count rows i marked : ℕ) (body : List ℕ) (answer : Result ℕ Bad) (items new : List ℤ) → answer ≡ placed base (unless (table_fault 0 4 body) count) → answer ≡ Ok rows → rows ≡ row_count body
    → SamplesAreMarked body rows samples i items → rows ≤ i → marked ≡ length items → new ≡ items ++ replicate (samples - marked) (pos 0) → placed base (stss_of samples body) ≡ Ok new
all_are_marked base samples count rows i marked body answer items new found ok is so_far le count_is new_is =
    let numbers = numbers_of body in
    let whole = numbers_from-all rows body is in
    let none = numbers_from-none rows body i le in
    let e : rise 0 samples numbers ≡ true = sym (rw (none, whole, rise-none (length items) samples) at so_far.rises) in
    let marks_are : new ≡ marks samples numbers = rw (new_is, count_is) ((rw (none, whole, gaps-none (length items) samples) at so_far.marked) ∙ marks_read samples numbers e) in
    rw (no_fault base count rows (table_fault 0 4 body) answer found ok, rising 0 samples numbers e, of_samples 0 samples numbers e, marks_are) refl

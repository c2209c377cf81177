-- The common size is found, and the sizes are pushed stretch by stretch.
use Rattle.std.proofs.Common.{◌≡◌, ℕ, zero, suc, ◌+◌, ◌-◌, ◌<◌, ◌≤◌, Bool, true, false, eqb, ◌&&◌, List, [], ◌∷◌, ◌++◌, length, map, drop, replicate, get_or, ℤ, pos, All, w64, of_z, to_z, codes, refl, sym, ap, subst, ◌∙◌, append_assoc, arith}
use Rattle.std.specs.Prelude.{unsigned_abs, FitsSigned}
use Rattle.std.specs.Int.{w32, FitsUnsigned}
use Rattle.std.specs.List.{list_all}
use Rattle.std.specs.declared.alloc.Global.{Global}
use Rattle.std.specs.declared.vec.Vec.{Vec}
use Rattle.std.proofs.lemmas.Bool.{eq-eqb, ne_eqb}
use Rattle.std.proofs.lemmas.List.{append-nil, drop_all, get_or-map, length-map}
use Rattle.std.proofs.lemmas.Int.{ints, to_z-of_z}
use Rattle.std.proofs.lemmas.List.Elements.{All-get_or}
use Rattle.mp_boxes.specs.declared.field.Field.{Field}
use Rattle.mp_boxes.specs.Field.{body_bytes, box_bytes, leaf}
use Rattle.mp_boxes.specs.Push.{ArePushed, IsLeft, IsPushed, IsPushing}
use Rattle.mp_boxes.specs.Table.{box_len, capped, with_rows}
use Rattle.mp_columns.specs.declared.run.Run.{Run}
use Rattle.mp_columns.specs.Runs.{IsLongestRun}
use Rattle.mp_chunks.specs.Written.{size_of_all, size_row, size_rows, sizes_front, stsz, stsz_body}
use Rattle.mp_chunks.proofs.RowsArePushed.{rows_pushed}

-- ---- the first stretch

first-items : (n : ℕ) (value : ℤ) (items rest : List ℤ) → 0 < n → items ≡ replicate n value ++ rest → 0 < length items × (get_or items 0 (pos 0) ≡ value)
first-items zero value items rest some e = absurd (omega arith)
first-items (suc n) value items rest some e = rw e (omega arith, refl)

-- its value is the item that it begins at
stretch-item : (items : List ℤ) (from to : ℕ) (stretch : Run) → IsLongestRun items from to stretch → (from < length items) × (get_or items from (pos 0) ≡ stretch.value)
stretch-item items from to stretch is =
    let first = first-items stretch.count stretch.value (drop from items) (drop to items) is.some is.equal in
    (omega (arith, is.some, is.end, is.inside), sym (same items from) ∙ first.1)
  where
    same : (xs : List ℤ) (k : ℕ) → get_or (drop k xs) 0 (pos 0) ≡ get_or xs k (pos 0)
    same [] zero = refl
    same [] (suc k) = refl
    same (x ∷ xs) zero = refl
    same (x ∷ xs) (suc k) = same xs k

stretch_fits : (items : List ℤ) (from to : ℕ) (stretch : Run) → All (FitsUnsigned w32) items → IsLongestRun items from to stretch → FitsUnsigned w32 stretch.value
stretch_fits items from to stretch fits is =
    let item = stretch-item items from to stretch is in
    subst (FitsUnsigned w32) item.1 (All-get_or (FitsUnsigned w32) items from (pos 0) item.0 fits)

-- as the code has it, in 64 bits
pub stretch_cast : (items : List ℤ) (from to : ℕ) (stretch : Run) → All (FitsUnsigned w32) items → IsLongestRun items from to stretch → to_z w64 (of_z w64 stretch.value) ≡ stretch.value
stretch_cast items from to stretch fits is = to_z-of_z w64 stretch.value (in_64 stretch.value (stretch_fits items from to stretch fits is))
  where
    in_64 : (value : ℤ) → FitsUnsigned w32 value → FitsSigned w64 value
    in_64 value fits = grind (arith, ints)

pub cast_fits : (items : List ℤ) (from to : ℕ) (stretch : Run) → All (FitsUnsigned w32) items → IsLongestRun items from to stretch → FitsUnsigned w32 (to_z w64 (of_z w64 stretch.value))
cast_fits items from to stretch fits is = rw (stretch_cast items from to stretch fits is) (stretch_fits items from to stretch fits is)

-- ---- the common size

each-same : (size n : ℕ) → list_all (λ other. eqb other size) (replicate n size) ≡ true
each-same size zero = refl
each-same size (suc n) = rw (eq-eqb size size refl, each-same size n) refl

copies-common : (size n : ℕ) → 0 < n → size_of_all (replicate n size) ≡ size
copies-common size zero some = absurd (omega arith)
copies-common size (suc n) some = rw (each-same size n) refl

map-replicate : (n : ℕ) (value : ℤ) → map unsigned_abs (replicate n value) ≡ replicate n (unsigned_abs value)
map-replicate zero value = refl
map-replicate (suc n) value = ap (λ (sizes : List ℕ). unsigned_abs value ∷ sizes) (map-replicate n value)

-- all are of the first stretch
pub all_have : (items : List ℤ) (from to : ℕ) (stretch : Run) → from ≡ 0 → IsLongestRun items from to stretch → stretch.count ≡ length items → unsigned_abs stretch.value ≡ size_of_all (map unsigned_abs items)
all_have items from to stretch front first all =
    let is : IsLongestRun items 0 to stretch = rw front at first in
    let value = stretch.value in
    let n = stretch.count in
    let whole : items ≡ replicate n value =
    is.equal ∙ (ap (λ (rest : List ℤ). replicate n value ++ rest) (drop_all to items (omega (arith, is.end, all))) ∙ append-nil (replicate n value)) in
    sym (ap (λ (xs : List ℤ). size_of_all (map unsigned_abs xs)) whole ∙ (ap size_of_all (map-replicate n value) ∙ copies-common (unsigned_abs value) n is.some))

one-other : (size : ℕ) (sizes : List ℕ) (k : ℕ) → k < length sizes → (get_or sizes k 0 ≡ size → ⊥) → list_all (λ other. eqb other size) sizes ≡ false
one-other size [] k lt other = absurd (omega arith)
one-other size (first ∷ sizes) zero lt other = rw (ne_eqb first size other) refl
one-other size (first ∷ sizes) (suc k) lt other = and_false (eqb first size) _ (one-other size sizes k (omega arith) other)
  where
    and_false : (a b : Bool) → b ≡ false → (a && b) ≡ false
    and_false true b e = e
    and_false false b e = refl

some-differs : (sizes : List ℕ) (k : ℕ) → k < length sizes → (get_or sizes k 0 ≡ get_or sizes 0 0 → ⊥) → 0 ≡ size_of_all sizes
some-differs [] k lt other = absurd (omega arith)
some-differs (first ∷ sizes) zero lt other = absurd (other refl)
some-differs (first ∷ sizes) (suc k) lt other = rw (one-other first sizes k (omega arith) other) refl

same-abs : (x y : ℤ) → FitsUnsigned w32 x → FitsUnsigned w32 y → unsigned_abs x ≡ unsigned_abs y → x ≡ y
same-abs x y fx fy e = grind arith

-- another follows the first stretch
pub one_differs : (items : List ℤ) (from to : ℕ) (stretch : Run) → from ≡ 0 → All (FitsUnsigned w32) items → IsLongestRun items from to stretch → (stretch.count ≡ length items → ⊥) → 0 ≡ size_of_all (map unsigned_abs items)
one_differs items from to stretch front fits first_stretch more =
    let is : IsLongestRun items 0 to stretch = rw front at first_stretch in
    let lt : to < length items = omega (arith, is.end, is.inside, more) in
    let item = stretch-item items 0 to stretch is in
    let there = get_or-map unsigned_abs items to (pos 0) 0 lt in
    let first = get_or-map unsigned_abs items 0 (pos 0) 0 item.0 in
    some-differs (map unsigned_abs items) to (omega (arith, lt, length-map items unsigned_abs))
    (λ same. is.other lt (same-abs (get_or items to (pos 0)) stretch.value (All-get_or (FitsUnsigned w32) items to (pos 0) lt fits) (stretch_fits items 0 to stretch fits is) (sym there ∙ (same ∙ (first ∙ ap unsigned_abs item.1)))))

-- ---- the rows of sizes

-- as pieces of text
abbrev pub size_pieces : List ℤ → List (List ℕ)
size_pieces items = map body_bytes (map size_row (map unsigned_abs items))

pieces-append : (one other : List ℤ) → size_pieces (one ++ other) ≡ size_pieces one ++ size_pieces other
pieces-append [] other = refl
pieces-append (item ∷ one) other = ap (λ (pieces : List (List ℕ)). body_bytes (size_row (unsigned_abs item)) ∷ pieces) (pieces-append one other)

pieces-copies : (n : ℕ) (value : ℤ) → size_pieces (replicate n value) ≡ replicate n (body_bytes (size_row (unsigned_abs value)))
pieces-copies zero value = refl
pieces-copies (suc n) value = ap (λ (pieces : List (List ℕ)). body_bytes (size_row (unsigned_abs value)) ∷ pieces) (pieces-copies n value)

-- one stretch more
pub more_sizes : (start now next : Vec ℕ Global) (items : List ℤ) (from to size : ℕ) (stretch : Run) → IsLongestRun items from to stretch → size ≡ unsigned_abs stretch.value
    → IsLeft start now (size_pieces items) (size_pieces (drop from items)) → ArePushed now next (replicate stretch.count (body_bytes (size_row size))) → IsLeft start next (size_pieces items) (size_pieces (drop to items))
more_sizes start now next items from to size stretch is e left pushed = λ others all pushing.
    let copies = replicate stretch.count (body_bytes (size_row size)) in
    let cut : size_pieces (drop from items) ≡ copies ++ size_pieces (drop to items) =
    ap size_pieces is.equal
    ∙ (pieces-append (replicate stretch.count stretch.value) (drop to items)
    ∙ ap (λ (front : List (List ℕ)). front ++ size_pieces (drop to items)) (pieces-copies stretch.count stretch.value ∙ ap (λ (n : ℕ). replicate stretch.count (body_bytes (size_row n))) (sym e))) in
    pushed (size_pieces (drop to items) ++ others) all
    (subst (λ (pieces : List (List ℕ)). IsPushing now pieces all) (ap (λ (pieces : List (List ℕ)). pieces ++ others) cut ∙ append_assoc copies (size_pieces (drop to items)) others) (left others all pushing))

-- one copy more
pub next_copy : (n k : ℕ) (piece bytes : List ℕ) → piece ≡ bytes → k < n → replicate (n - k) piece ≡ bytes ∷ replicate (n - (k + 1)) piece
next_copy n k piece bytes same lt =
    let one : n - k ≡ suc (n - (k + 1)) = omega arith in
    ap (λ (m : ℕ). replicate m piece) one ∙ ap (λ (first : List ℕ). first ∷ replicate (n - (k + 1)) piece) same

pub no_copy : (n k : ℕ) (piece : List ℕ) → n ≤ k → replicate (n - k) piece ≡ []
no_copy n k piece le = let none : n - k ≡ 0 = omega arith in ap (λ (m : ℕ). replicate m piece) none

-- behind the last stretch no size is left
pub none_left : (items : List ℤ) (from : ℕ) → from ≡ length items → size_pieces (drop from items) ≡ []
none_left items from end = ap size_pieces (drop_all from items (omega arith))

-- ---- the box

pub all_listed : (sizes : List ℕ) (common : ℕ) → common ≡ size_of_all sizes → common ≡ 0 → size_rows sizes ≡ map size_row sizes
all_listed sizes common is none = rw (sym is ∙ none) refl

pub none_listed : (sizes : List ℕ) (common : ℕ) → common ≡ size_of_all sizes → (common ≡ 0 → ⊥) → size_rows sizes ≡ []
none_listed sizes common is some = rw (ne_eqb (size_of_all sizes) 0 (λ none. some (is ∙ none))) refl

pub stsz_pushed : (old mid new : Vec ℕ Global) (sizes : List ℕ) (front : List Field) (len : ℕ) → front ≡ sizes_front sizes → len ≡ capped (box_len (stsz sizes))
    → ((rows : List (List Field)) → len ≡ capped (box_len (leaf (codes "stsz") (with_rows front rows))) → IsLeft old mid (box_bytes (leaf (codes "stsz") (with_rows front rows)) ∷ []) (map body_bytes rows))
    → ArePushed mid new (map body_bytes (size_rows sizes)) → IsPushed old new (box_bytes (stsz sizes))
unfolding stsz_body
stsz_pushed old mid new sizes front len is long begun pushed =
    let whole = subst (λ (f : List Field). (rows : List (List Field)) → len ≡ capped (box_len (leaf (codes "stsz") (with_rows f rows))) → IsLeft old mid (box_bytes (leaf (codes "stsz") (with_rows f rows)) ∷ []) (map body_bytes rows)) is begun in
    rows_pushed old mid new (box_bytes (stsz sizes)) (map body_bytes (size_rows sizes)) (whole (size_rows sizes) long) pushed

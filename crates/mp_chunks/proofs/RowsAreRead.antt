-- The number at a place of a row is the number at that place of the table.
use Rattle.std.proofs.Common.{◌≡◌, ℕ, zero, suc, ◌+◌, ◌*◌, ◌<◌, ◌≤◌, List, [], length, map, take, drop, get_or, slice_index, refl, ap, ◌∙◌, arith}
use Rattle.std.proofs.lemmas.List.{drop-drop, get_or-take, get_or-drop, get_or-map, length-map}
use Rattle.mp_boxes.specs.Number.{u16_at, u32_at, u64_at}
use Rattle.mp_boxes.specs.FullBox.{rows_of}

length-rows_of : (n w : ℕ) (bytes : List ℕ) → length (rows_of n w bytes) ≡ n
unfolding rows_of
length-rows_of zero w bytes = refl
length-rows_of (suc n) w bytes = ap suc (length-rows_of n w (drop w bytes))

get_or-rows_of : (n w j : ℕ) (bytes : List ℕ) → j < n → get_or (rows_of n w bytes) j [] ≡ take w (drop (w * j) bytes)
unfolding rows_of
get_or-rows_of zero w j bytes lt = absurd (omega arith)
get_or-rows_of (suc n) w zero bytes lt = let e : w * 0 ≡ 0 = omega arith in rw e refl
get_or-rows_of (suc n) w (suc j) bytes lt =
    let e : w + w * j ≡ w * suc j = omega arith in
    get_or-rows_of n w j (drop w bytes) (omega arith) ∙ ap (take w) (drop-drop (w * j) w bytes ∙ ap (λ (k : ℕ). drop k bytes) e)

-- what a row says, by its bytes in the table
pub get_or-map-rows_of : {X : Type 0} (f : List ℕ → X) (n w j : ℕ) (bytes : List ℕ) (d : X) → j < n → get_or (map f (rows_of n w bytes)) j d ≡ f (take w (drop (w * j) bytes))
get_or-map-rows_of f n w j bytes d lt = get_or-map f (rows_of n w bytes) j [] d (omega (arith, length-rows_of n w bytes)) ∙ ap f (get_or-rows_of n w j bytes lt)

pub length-map-rows_of : {X : Type 0} (f : List ℕ → X) (n w : ℕ) (bytes : List ℕ) → length (map f (rows_of n w bytes)) ≡ n
length-map-rows_of f n w bytes = length-map (rows_of n w bytes) f ∙ length-rows_of n w bytes

-- a byte of a row behind `front` bytes
byte_in : (w front k i j : ℕ) (bytes : List ℕ) → i < w → front + k + i ≡ j → slice_index (take w (drop k (drop front bytes))) i ≡ slice_index bytes j
byte_in w front k i j bytes lt e = get_or-take w (drop k (drop front bytes)) i 0 lt ∙ get_or-drop k (drop front bytes) i 0 ∙ get_or-drop front bytes (k + i) 0 ∙ ap (λ (m : ℕ). get_or bytes m 0) (omega arith)

pub u16_in_row : (w front k at : ℕ) (bytes : List ℕ) → at + 2 ≤ w → u16_at (take w (drop k (drop front bytes))) at ≡ u16_at bytes (front + k + at)
unfolding u16_at
u16_in_row w front k at bytes le = rw (byte_in w front k at (front + k + at) bytes (omega arith) refl, byte_in w front k (at + 1) (front + k + at + 1) bytes (omega arith) (omega arith)) refl

pub u32_in_row : (w front k at : ℕ) (bytes : List ℕ) → at + 4 ≤ w → u32_at (take w (drop k (drop front bytes))) at ≡ u32_at bytes (front + k + at)
unfolding u32_at
u32_in_row w front k at bytes le =
    let byte = λ (i : ℕ) (lt : i < 4). byte_in w front k (at + i) (front + k + at + i) bytes (omega arith) (omega arith) in
    rw (byte_in w front k at (front + k + at) bytes (omega arith) refl, byte 1 (omega arith), byte 2 (omega arith), byte 3 (omega arith)) refl

pub u64_in_row : (w front k at : ℕ) (bytes : List ℕ) → at + 8 ≤ w → u64_at (take w (drop k (drop front bytes))) at ≡ u64_at bytes (front + k + at)
unfolding u64_at
u64_in_row w front k at bytes le =
    let byte = λ (i : ℕ) (lt : i < 8). byte_in w front k (at + i) (front + k + at + i) bytes (omega arith) (omega arith) in
    rw (byte_in w front k at (front + k + at) bytes (omega arith) refl, byte 1 (omega arith), byte 2 (omega arith), byte 3 (omega arith), byte 4 (omega arith), byte 5 (omega arith), byte 6 (omega arith), byte 7 (omega arith)) refl

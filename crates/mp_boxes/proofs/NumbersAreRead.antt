-- A number that stands at a place is read there, whatever is around it.
use Rattle.std.proofs.Common.{◌≡◌, ℕ, ◌+◌, ◌^◌, ◌<◌, ◌≤◌, List, [], ◌∷◌, ◌++◌, length, slice_index, take, refl, ap, ◌∙◌, arith}
use Rattle.std.specs.Int.{w16, w32, w64, to_be_bytes}
use Rattle.std.proofs.lemmas.List.{get_or-append-add, get_or-take}
use Rattle.std.proofs.lemmas.Nat.{from_be_bytes-to_be_bytes_2, from_be_bytes-to_be_bytes_4, from_be_bytes-to_be_bytes_8}
use Rattle.mp_boxes.specs.Number.{u16_at, u32_at, u64_at, kind_at}

-- `count` bytes of one text are those of another
pub record HasSameBytes (count : ℕ) (xs : List ℕ) (i : ℕ) (ys : List ℕ) (j : ℕ) : Type 0 where
  pub same : (k : ℕ) → k < count → slice_index xs (i + k) ≡ slice_index ys (j + k)

-- behind a front, in what is left, and in a front that holds them
pub behind : (count : ℕ) (front rest : List ℕ) (at i : ℕ) → at ≡ length front + i → HasSameBytes count (front ++ rest) at rest i
behind count front rest at i e = record { same = λ k lt. ap (λ (m : ℕ). slice_index (front ++ rest) m) (omega arith) ∙ get_or-append-add front rest (i + k) 0 }

pub in_front : (count n : ℕ) (xs : List ℕ) (i : ℕ) → i + count ≤ n → HasSameBytes count (take n xs) i xs i
in_front count n xs i h = record { same = λ k lt. get_or-take n xs (i + k) 0 (omega arith) }

first_byte : (count : ℕ) (xs : List ℕ) (i : ℕ) (ys : List ℕ) (j : ℕ) → 0 < count → HasSameBytes count xs i ys j → slice_index xs i ≡ slice_index ys j
first_byte count xs i ys j some s = ap (λ (m : ℕ). slice_index xs m) (omega arith) ∙ (s.same 0 some ∙ ap (λ (m : ℕ). slice_index ys m) (omega arith))

u16_at-same : (xs ys : List ℕ) (i j : ℕ) → HasSameBytes 2 xs i ys j → u16_at xs i ≡ u16_at ys j
unfolding u16_at
u16_at-same xs ys i j s = rw (first_byte 2 xs i ys j (omega arith) s, s.same 1 (omega arith)) refl

pub u32_at-same : (xs ys : List ℕ) (i j : ℕ) → HasSameBytes 4 xs i ys j → u32_at xs i ≡ u32_at ys j
unfolding u32_at
u32_at-same xs ys i j s = rw (first_byte 4 xs i ys j (omega arith) s, s.same 1 (omega arith), s.same 2 (omega arith), s.same 3 (omega arith)) refl

pub kind_at-same : (xs ys : List ℕ) (i j : ℕ) → HasSameBytes 4 xs i ys j → kind_at xs i ≡ kind_at ys j
unfolding kind_at
kind_at-same xs ys i j s = rw (first_byte 4 xs i ys j (omega arith) s, s.same 1 (omega arith), s.same 2 (omega arith), s.same 3 (omega arith)) refl

pub u64_at-same : (xs ys : List ℕ) (i j : ℕ) → HasSameBytes 8 xs i ys j → u64_at xs i ≡ u64_at ys j
unfolding u64_at
u64_at-same xs ys i j s =
    simp (
      first_byte 8 xs i ys j (omega arith) s,
      s.same 1 (omega arith),
      s.same 2 (omega arith),
      s.same 3 (omega arith),
      s.same 4 (omega arith),
      s.same 5 (omega arith),
      s.same 6 (omega arith),
      s.same 7 (omega arith),
    )
    refl

-- a number that was written is read
pub u16_at-written : (n : ℕ) (rest : List ℕ) → n < 2 ^ 16 → u16_at (to_be_bytes w16 n ++ rest) 0 ≡ n
unfolding u16_at
u16_at-written n rest h = from_be_bytes-to_be_bytes_2 n h

pub u32_at-written : (n : ℕ) (rest : List ℕ) → n < 2 ^ 32 → u32_at (to_be_bytes w32 n ++ rest) 0 ≡ n
unfolding u32_at
u32_at-written n rest h = from_be_bytes-to_be_bytes_4 n h

pub u64_at-written : (n : ℕ) (rest : List ℕ) → n < 2 ^ 64 → u64_at (to_be_bytes w64 n ++ rest) 0 ≡ n
unfolding u64_at
u64_at-written n rest h = from_be_bytes-to_be_bytes_8 n h

kind_at-written : (kind rest : List ℕ) → length kind ≡ 4 → kind_at (kind ++ rest) 0 ≡ kind
unfolding kind_at
kind_at-written (a ∷ b ∷ c ∷ d ∷ []) rest e = refl
kind_at-written [] rest e = absurd cc
kind_at-written (a ∷ []) rest e = absurd cc
kind_at-written (a ∷ b ∷ []) rest e = absurd cc
kind_at-written (a ∷ b ∷ c ∷ []) rest e = absurd cc
kind_at-written (a ∷ b ∷ c ∷ d ∷ x ∷ xs) rest e = absurd cc

-- and behind a front
pub u16_at-behind : (front : List ℕ) (n : ℕ) (rest : List ℕ) (at : ℕ) → at ≡ length front → n < 2 ^ 16 → u16_at (front ++ (to_be_bytes w16 n ++ rest)) at ≡ n
u16_at-behind front n rest at e h = u16_at-same _ _ at 0 (behind 2 front (to_be_bytes w16 n ++ rest) at 0 (omega arith)) ∙ u16_at-written n rest h

pub u32_at-behind : (front : List ℕ) (n : ℕ) (rest : List ℕ) (at : ℕ) → at ≡ length front → n < 2 ^ 32 → u32_at (front ++ (to_be_bytes w32 n ++ rest)) at ≡ n
u32_at-behind front n rest at e h = u32_at-same _ _ at 0 (behind 4 front (to_be_bytes w32 n ++ rest) at 0 (omega arith)) ∙ u32_at-written n rest h

pub u64_at-behind : (front : List ℕ) (n : ℕ) (rest : List ℕ) (at : ℕ) → at ≡ length front → n < 2 ^ 64 → u64_at (front ++ (to_be_bytes w64 n ++ rest)) at ≡ n
u64_at-behind front n rest at e h = u64_at-same _ _ at 0 (behind 8 front (to_be_bytes w64 n ++ rest) at 0 (omega arith)) ∙ u64_at-written n rest h

pub kind_at-behind : (front kind rest : List ℕ) (at : ℕ) → at ≡ length front → length kind ≡ 4 → kind_at (front ++ (kind ++ rest)) at ≡ kind
kind_at-behind front kind rest at e h = kind_at-same _ _ at 0 (behind 4 front (kind ++ rest) at 0 (omega arith)) ∙ kind_at-written kind rest h

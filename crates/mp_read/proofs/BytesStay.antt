-- Parts of bytes are bytes.
use Rattle.std.proofs.Common.{ℕ, zero, suc, ◌+◌, List, [], ◌∷◌, ◌++◌, take, drop, slice_range, arith}
use Rattle.std.proofs.lemmas.List.{get_or-drop}
use Rattle.mp_boxes.specs.Boxes.{IsBytes}

pub dropped : (n : ℕ) (xs : List ℕ) → IsBytes xs → IsBytes (drop n xs)
dropped n xs bytes i = rw get_or-drop (bytes (n + i))

pub taken : (n : ℕ) (xs : List ℕ) → IsBytes xs → IsBytes (take n xs)
taken zero xs bytes i = omega arith
taken (suc n) [] bytes i = omega arith
taken (suc n) (x ∷ xs) bytes zero = bytes zero
taken (suc n) (x ∷ xs) bytes (suc i) = taken n xs (λ j. bytes (suc j)) i

pub ranged : (xs : List ℕ) (from to : ℕ) → IsBytes xs → IsBytes (slice_range xs from to)
ranged xs from to bytes = taken _ (drop from xs) (dropped from xs bytes)

pub joined : (xs ys : List ℕ) → IsBytes xs → IsBytes ys → IsBytes (xs ++ ys)
joined [] ys some others i = others i
joined (x ∷ xs) ys some others zero = some zero
joined (x ∷ xs) ys some others (suc i) = joined xs ys (λ j. some (suc j)) others i

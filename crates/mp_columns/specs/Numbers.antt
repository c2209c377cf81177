-- Words on lists of whole numbers.
use Rattle.std.specs.Prelude.{ℕ, List, ℤ, pos, ◌+ℤ◌, fold, max}
use Rattle.std.specs.Int.RustNames.{unsigned_abs}

-- the sum
abbrev pub total : List ℤ → ℤ
total xs = fold ◌+ℤ◌ (pos 0) xs

-- the greatest absolute value, or 0 for the empty list
abbrev pub largest : List ℤ → ℕ
largest xs = fold (λ most x. max most (unsigned_abs x)) 0 xs

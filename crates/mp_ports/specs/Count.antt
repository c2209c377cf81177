-- Counts of faults and of calls, each a u64 that stays at its last value.
use Rattle.std.specs.Prelude.{ℕ, ◌+◌, ◌-◌, ◌^◌, ◌≤◌, min}

-- the count after one more
abbrev pub after_fault : ℕ → ℕ
after_fault count = min (count + 1) (2 ^ 64 - 1)

-- greater than before, or at the last value
abbrev pub Rose : ℕ → ℕ → Type 0
Rose before now = after_fault before ≤ now

use Rattle.std.proofs.Common.{◌≡◌, ◌+◌, ◌++◌, drop}
use Rattle.mp_shown.specs.Shown.{is_at, numbers_where}
use Rattle.mp_shown.proofs.shown.numbers_at.Given as goal

-- the numbers so far, and those of the samples that are left
abbrev pub invariant-loop-index : goal.invariant-loop-index
invariant-loop-index l =
    l.numbers.items ++ numbers_where (λ sample. is_at 1 sample l.tick) (l.index + 1) (drop l.index l.samples) ≡ numbers_where (λ sample. is_at 1 sample l.tick) 1 l.samples

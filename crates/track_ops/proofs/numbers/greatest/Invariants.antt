use Rattle.std.proofs.Common.{◌≡◌, max, drop}
use Rattle.mp_movie.specs.Durations.{greatest}
use Rattle.track_ops.proofs.numbers.greatest.Given as goal

-- the greatest so far, and those that are left
abbrev pub invariant-loop-number : goal.invariant-loop-number
invariant-loop-number l = max l.most (greatest (drop l.number-index l.numbers)) ≡ greatest l.numbers

use Rattle.std.proofs.Common.{◌≡◌, ◌++◌, take, drop, map, pos, ◌*ℤ◌}
use Rattle.mp_columns.proofs.sums.scale_sums.Given as goal

abbrev pub invariant-loop-sum : goal.invariant-loop-sum
invariant-loop-sum l = l.sums ≡ map (λ x. x *ℤ pos l.k) (take l.sum-index l.fn.sums) ++ drop l.sum-index l.fn.sums

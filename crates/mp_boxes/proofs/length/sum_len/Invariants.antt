use Rattle.std.proofs.Common.{◌≡◌, ◌+◌, ◌<◌, ◌^◌, sum, drop}
use Rattle.mp_boxes.specs.Table.{capped}
use Rattle.mp_boxes.proofs.length.sum_len.Given as goal

-- what is counted and what is left are the whole
abbrev pub invariant-loop-len : goal.invariant-loop-len
invariant-loop-len l = (capped (l.all + sum (drop l.len-index l.lens)) ≡ capped (sum l.lens)) × (l.all < 2 ^ 64)

use Rattle.std.proofs.Common.{◌≡◌, take}
use Rattle.std.specs.List.{sum_by}
use Rattle.mp_boxes.specs.Table.{capped}
use Rattle.mp_layout.proofs.table.traks_len.Given as goal

-- the length of those so far
abbrev pub invariant-loop-reach : goal.invariant-loop-reach
invariant-loop-reach l = l.len ≡ capped (sum_by (λ reach. reach.trak) (take l.reach-index l.reaches))

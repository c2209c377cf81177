use Rattle.std.proofs.Common.{◌≡◌, ◌+◌, ◌++◌, drop, map}
use Rattle.mp_boxes.specs.Table.{capped}
use Rattle.mp_layout.proofs.places.moved.Given as goal

-- the places so far, and those of what is left
abbrev pub invariant-loop-at : goal.invariant-loop-at
invariant-loop-at l = l.moved.items ++ map (λ behind. capped (l.place + behind)) (drop l.at l.places) ≡ map (λ behind. capped (l.place + behind)) l.places

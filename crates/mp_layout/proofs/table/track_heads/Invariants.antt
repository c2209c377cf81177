use Rattle.std.proofs.Common.{◌≡◌, ◌++◌, drop}
use Rattle.mp_layout.specs.Chunked.{heads_on}
use Rattle.mp_layout.proofs.table.track_heads.Given as goal

-- what was said so far, and what is said of what is left
abbrev pub invariant-loop-at : goal.invariant-loop-at
invariant-loop-at l =
    l.heads.items ++ heads_on l.tracks l.position (drop l.at l.chunks) (drop l.at l.places) ≡ heads_on l.tracks l.position l.chunks l.places

use Rattle.std.proofs.Common.{◌≡◌, drop}
use Rattle.std.specs.Prelude.{max}
use Rattle.mp_layout.specs.Chunked.{furthest}
use Rattle.mp_layout.proofs.table.furthest.Given as goal

abbrev pub invariant-loop-at : goal.invariant-loop-at
invariant-loop-at l = max l.furthest (furthest (drop l.at l.chunks)) ≡ furthest l.chunks

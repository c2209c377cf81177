use Rattle.std.proofs.Common.{◌≡◌, ◌++◌, drop}
use Rattle.mp_layout.specs.Chunked.{places_behind}
use Rattle.mp_layout.proofs.places.chunk_places.Given as goal

-- the places so far, and those of what is left
abbrev pub invariant-loop-at : goal.invariant-loop-at
invariant-loop-at l = l.places.items ++ places_behind l.tracks l.place (drop l.at l.chunks) ≡ places_behind l.tracks 0 l.chunks

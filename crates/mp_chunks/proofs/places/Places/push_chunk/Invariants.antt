use Rattle.std.proofs.Common.{◌≡◌, ◌+◌, drop, take, sum}
use Rattle.mp_chunks.specs.Samples.{sizes}
use Rattle.mp_chunks.specs.Walk.{HasPlaced}
use Rattle.mp_chunks.proofs.places.Places.push_chunk.Given as goal

abbrev pub invariant-loop-before : goal.invariant-loop-before
invariant-loop-before l = record {
  from : l.from ≡ l.chunk.from + sum (drop l.chunk.first (take l.before (sizes l.tables)));
  placed : HasPlaced l.tables l.limits.file_size l.before l.self;
}

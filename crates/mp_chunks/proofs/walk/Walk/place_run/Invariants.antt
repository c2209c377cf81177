use Rattle.std.proofs.Common.{◌≤◌, ◌+◌, ◌-◌}
use Rattle.mp_chunks.specs.Samples.{runs}
use Rattle.mp_chunks.specs.Walk.{AreInOrder, IsWalked, chunks_before}
use Rattle.mp_chunks.proofs.walk.Walk.place_run.Given as goal

abbrev pub decreases-loop-self : goal.decreases-loop-self
decreases-loop-self l = l.end - l.self.chunks

abbrev pub invariant-loop-self : goal.invariant-loop-self
invariant-loop-self l = record {
  walked : IsWalked l.tables l.limits l.self;
  begun : AreInOrder (runs l.tables) → chunks_before (runs l.tables) l.limits.chunks l.before ≤ l.self.chunks;
  within : AreInOrder (runs l.tables) → l.self.chunks ≤ chunks_before (runs l.tables) l.limits.chunks (l.before + 1);
}

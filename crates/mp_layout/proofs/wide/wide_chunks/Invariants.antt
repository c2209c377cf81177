use Rattle.std.proofs.Common.{◌≡◌, ◌+◌, ◌*◌, ◌≤◌, ◌^◌, drop}
use Rattle.mp_layout.specs.Wide.{chunks_in}
use Rattle.mp_layout.proofs.wide.wide_chunks.Given as goal

-- the chunks so far, and those of what is left
abbrev pub invariant-loop-at : goal.invariant-loop-at
invariant-loop-at l = record {
  whole : l.chunks + chunks_in (drop l.at l.reaches) (drop l.at l.wide) ≡ chunks_in l.reaches l.wide;
  short : l.chunks ≤ l.at * 2 ^ 32;
}

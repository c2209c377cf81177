use Rattle.std.proofs.Common.{◌≡◌, ◌+◌, ◌≤◌, length}
use Rattle.mp_chunks.specs.Written.{runs_of}
use Rattle.mp_chunks.proofs.RunsArePushed.{left_of}
use Rattle.mp_chunks.proofs.push.count_runs.Given as goal

abbrev pub invariant-loop-before : goal.invariant-loop-before
invariant-loop-before l = record {
  few : l.runs ≤ l.before;
  counted : l.runs + length (left_of l.chunks l.before l.run) ≡ length (runs_of l.chunks);
}

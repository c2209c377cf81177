use Rattle.std.proofs.Common.{◌≡◌}
use Rattle.mp_chunks.specs.Chunks.{run_fault, runs_fault}
use Rattle.mp_chunks.specs.Samples.{runs}
use Rattle.mp_chunks.specs.Walk.{HasWalked}
use Rattle.mp_chunks.proofs.FirstOfRows.{faults_from}
use Rattle.mp_chunks.proofs.walk.Walk.place_runs.Given as goal

abbrev pub invariant-loop-before : goal.invariant-loop-before
invariant-loop-before l = record {
  faults : faults_from (run_fault l.limits.entries (runs l.tables)) l.limits.runs l.before ≡ runs_fault l.limits.entries (runs l.tables);
  walked : HasWalked l.tables l.limits l.before l.self;
}

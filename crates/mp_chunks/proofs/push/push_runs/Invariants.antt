use Rattle.mp_boxes.specs.Push.{IsLeft}
use Rattle.mp_chunks.specs.Written.{runs_of}
use Rattle.mp_chunks.proofs.RunsArePushed.{left_of, run_pieces}
use Rattle.mp_chunks.proofs.push.push_runs.Given as goal

abbrev pub invariant-loop-before : goal.invariant-loop-before
invariant-loop-before l = IsLeft l.fn.out l.out (run_pieces (runs_of l.chunks)) (run_pieces (left_of l.chunks l.before l.run))

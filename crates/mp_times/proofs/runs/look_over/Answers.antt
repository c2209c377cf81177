use Rattle.std.proofs.Common.{rules, w64}
use Rattle.std.proofs.lemmas.Int.{to_z-of_z}
use Rattle.mp_times.proofs.RunsAreWalked.{nothing_surveyed, run_is_surveyed, all_is_surveyed}
use Rattle.mp_times.proofs.runs.look_over.Goals as goal

pub loop-run-init : goal.loop-run-init
loop-run-init g c = rw c.at-cursor.ensures (nothing_surveyed _ _ _)

pub loop-run-preserved : goal.loop-run-preserved
loop-run-preserved g c =
    rw (c.is_unsigned-unsigned.ensures, c.is_zero-zero.ensures, to_z-of_z w64 c.in-Some.run'.value (search rules))
    (run_is_surveyed c.in-Some.run' c.loop-run.invariant c.in-Some.ensures.next c.in-Some.ensures.first)

pub returns-clause-count : goal.returns-clause-count
returns-clause-count g c = (all_is_surveyed c.loop-run.invariant c.in_default.ensures.next.0).counted

pub returns-clause-unsigned : goal.returns-clause-unsigned
returns-clause-unsigned g c = (all_is_surveyed c.loop-run.invariant c.in_default.ensures.next.0).tested

pub returns-clause-zero : goal.returns-clause-zero
returns-clause-zero g c = (all_is_surveyed c.loop-run.invariant c.in_default.ensures.next.0).others_tested

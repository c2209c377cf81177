use Rattle.std.proofs.Common.{rules, w64}
use Rattle.std.proofs.lemmas.Int.{to_z-of_z}
use Rattle.mp_movie.proofs.RunsAreTested.{all_is_tested, run_is_tested}
use Rattle.mp_movie.proofs.limits.is_wide.Goals as goal

pub loop-run-preserved : goal.loop-run-preserved
loop-run-preserved c =
    let value = to_z-of_z w64 c.in-Some.run'.value (search rules) in
    record {
      inside = c.in-Some.ensures.next.inside;
      unsigned = rw (c.is_unsigned-unsigned.ensures, value) (run_is_tested _ _ _ _ _ c.in-Some.run' c.loop-run.invariant.unsigned c.in-Some.ensures.next);
      signed = rw (c.is_signed-signed.ensures, value) (run_is_tested _ _ _ _ _ c.in-Some.run' c.loop-run.invariant.signed c.in-Some.ensures.next);
    }

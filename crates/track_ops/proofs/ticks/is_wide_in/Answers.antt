use Rattle.std.proofs.Common.{rules, w64, refl, ◌∙◌}
use Rattle.std.proofs.lemmas.Int.{to_z-of_z}
use Rattle.mp_times.specs.Written.{is_unsigned}
use Rattle.mp_movie.specs.PartsFit.{is_signed}
use Rattle.track_ops.specs.Ticks.{signed_in_scale}
use Rattle.track_ops.proofs.RunsInScale.{all_are_tested, run_is_tested}
use Rattle.track_ops.proofs.ticks.is_wide_in.Goals as goal

pub loop-run-preserved : goal.loop-run-preserved
loop-run-preserved c =
    let value = to_z-of_z w64 c.in-Some.run'.value (search rules) in
    record {
      inside = c.in-Some.ensures.next.inside;
      unsigned = rw (c.is_unsigned_in-unsigned.ensures, value) (run_is_tested _ _ _ _ _ c.in-Some.run' c.loop-run.invariant.unsigned c.in-Some.ensures.next);
      signed = rw (c.is_signed_in-signed.ensures, value) (run_is_tested _ _ _ _ _ c.in-Some.run' c.loop-run.invariant.signed c.in-Some.ensures.next);
    }

pub returns : goal.returns
returns c =
    let end = c.in_default.ensures.next.0 in
    let unsigned = all_are_tested is_unsigned (signed_in_scale c.args.old c.args.new) c.args.offsets.now _ _ end c.loop-run.invariant.unsigned in
    let signed = all_are_tested is_signed (signed_in_scale c.args.old c.args.new) c.args.offsets.now _ _ end c.loop-run.invariant.signed in
    c.neither.ensures ∙ rw (unsigned, signed) refl

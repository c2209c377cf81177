use Rattle.std.proofs.Common.{rules, ◌≡◌, ◌<◌, ◌≤◌, ℤ, Bool, ◌&&◌, w64, to_z, of_z, sym, ap, ◌∙◌, arith}
use Rattle.std.proofs.lemmas.Int.{to_z-of_z}
use Rattle.mp_times.specs.Written.{is_unsigned}
use Rattle.mp_movie.specs.PartsFit.{is_signed}
use Rattle.cut_op.specs.Placed.{moved_offset}
use Rattle.cut_op.proofs.KeptRuns.{run_asked, wide_asked}
use Rattle.cut_op.proofs.limits.are_offsets_wide.Goals as goal

pub loop-cursor-preserved : goal.loop-cursor-preserved
loop-cursor-preserved c =
    let value = to_z-of_z w64 c.in-Some.run'.value (search rules) in
    let unsigned = c.both-unsigned.ensures ∙ ap (λ (b : Bool). c.loop-cursor.unsigned && b) (c.fits_unsigned.ensures ∙ ap (λ (z : ℤ). is_unsigned (moved_offset c.args.factor c.args.ahead z)) value) in
    let signed = c.both-signed.ensures ∙ ap (λ (b : Bool). c.loop-cursor.signed && b) (c.fits_signed.ensures ∙ ap (λ (z : ℤ). is_signed (moved_offset c.args.factor c.args.ahead z)) value) in
    let lt : c.loop-cursor.cursor < c.args.to = omega (arith, c.loop-cursor-test.true, c.place.ensures) in
    record {
      unsigned = run_asked (λ offset. is_unsigned (moved_offset c.args.factor c.args.ahead offset)) c.args.offsets.now c.args.from c.args.to c.loop-cursor.cursor c.next_run.new.cursor c.in-Some.run' c.loop-cursor.unsigned
          c.both-unsigned.result lt c.loop-cursor.invariant.unsigned c.in-Some.ensures.next unsigned;
      signed = run_asked (λ offset. is_signed (moved_offset c.args.factor c.args.ahead offset)) c.args.offsets.now c.args.from c.args.to c.loop-cursor.cursor c.next_run.new.cursor c.in-Some.run' c.loop-cursor.signed
          c.both-signed.result lt c.loop-cursor.invariant.signed c.in-Some.ensures.next signed;
      inside = c.in-Some.ensures.next.inside;
    }

pub returns : goal.returns
returns c =
    c.neither.ensures
    ∙ wide_asked is_unsigned is_signed (moved_offset c.args.factor c.args.ahead) c.args.offsets.now c.args.from c.args.to c.loop-cursor.cursor c.loop-cursor.unsigned c.loop-cursor.signed
    (omega (arith, c.loop-cursor-test.false, c.place.ensures)) c.loop-cursor.invariant.unsigned c.loop-cursor.invariant.signed

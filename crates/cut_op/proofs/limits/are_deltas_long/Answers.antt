use Rattle.std.proofs.Common.{rules, ◌≡◌, ◌<◌, ◌≤◌, ℤ, pos, ◌*ℤ◌, Bool, not, ◌&&◌, ◌||◌, [], ◌∷◌, w64, to_z, of_z, sym, ap, ◌∙◌, arith}
use Rattle.std.proofs.lemmas.Int.{to_z-of_z}
use Rattle.mp_movie.specs.PartsFit.{is_long}
use Rattle.cut_op.proofs.KeptRuns.{is_short, long_asked, long_or, run_asked}
use Rattle.cut_op.proofs.limits.are_deltas_long.Goals as goal

pub loop-cursor-preserved : goal.loop-cursor-preserved
loop-cursor-preserved c =
    let more = c.is_delta_long.ensures ∙ ap (λ (z : ℤ). is_long ((z *ℤ pos c.args.factor) ∷ [])) (to_z-of_z w64 c.in-Some.run'.value (search rules)) in
    let now = ap not c.one_of-long.ensures ∙ (long_or c.loop-cursor.long c.is_delta_long.result ∙ ap (λ (b : Bool). not c.loop-cursor.long && not b) more) in
    record {
      asked = run_asked (λ delta. is_short (delta *ℤ pos c.args.factor)) c.args.deltas.now c.args.from c.args.to c.loop-cursor.cursor c.next_run.new.cursor c.in-Some.run' (not c.loop-cursor.long) (not c.one_of-long.result)
          (omega (arith, c.loop-cursor-test.true, c.place.ensures)) c.loop-cursor.invariant.asked c.in-Some.ensures.next now;
      inside = c.in-Some.ensures.next.inside;
    }

pub returns : goal.returns
returns c = long_asked c.args.factor c.args.deltas.now c.args.from c.args.to c.loop-cursor.cursor c.loop-cursor.long (omega (arith, c.loop-cursor-test.false, c.place.ensures)) c.loop-cursor.invariant.asked

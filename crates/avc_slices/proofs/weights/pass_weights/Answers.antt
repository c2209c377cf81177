use Rattle.std.proofs.Common.{◌∙◌, arith}
use Rattle.avc_slices.proofs.Repeating.{next_weight, refused_luma, refused_chroma, no_weight}
use Rattle.avc_slices.proofs.weights.pass_weights.Goals as goal

pub returns-in-Err-clause-takes : goal.returns-in-Err-clause-takes
returns-in-Err-clause-takes c = c.loop-reference.invariant.walked ∙ refused_luma c.elements_in_turn.ensures.passed _ _ _ _ _ c.loop-reference-test.true c.in-Err.ensures.takes

pub returns-in-Err-pass_chroma_weights-clause-takes : goal.returns-in-Err-pass_chroma_weights-clause-takes
returns-in-Err-pass_chroma_weights-clause-takes c = c.loop-reference.invariant.walked ∙ refused_chroma c.elements_in_turn.ensures.passed _ _ _ _ _ _ c.loop-reference-test.true c.in-Ok.ensures.takes c.in-Err-pass_chroma_weights.ensures.takes

pub loop-reference-preserved : goal.loop-reference-preserved
loop-reference-preserved c = record {
  shorter = omega (arith, c.loop-reference.invariant.shorter, c.in-Ok.ensures.shorter, c.in-Ok-pass_chroma_weights.ensures.shorter);
  walked = c.loop-reference.invariant.walked ∙ next_weight c.elements_in_turn.ensures.passed _ _ _ _ _ _ c.loop-reference-test.true c.in-Ok.ensures.takes c.in-Ok-pass_chroma_weights.ensures.takes;
}

pub returns-clause-takes : goal.returns-clause-takes
returns-clause-takes c = c.loop-reference.invariant.walked ∙ no_weight _ _ _ _ c.loop-reference-test.false

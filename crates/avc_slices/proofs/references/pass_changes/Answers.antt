use Rattle.std.proofs.Common.{◌∙◌, refl, arith}
use Rattle.avc_slices.proofs.Repeating.{change_more, change_last, change_cut, change_half}
use Rattle.avc_slices.proofs.references.pass_changes.Goals as goal

pub loop-operation-init : goal.loop-operation-init
loop-operation-init c = record {
  shorter = omega arith;
  rest = λ n le. (n, le, refl);
}

pub returns-in-Err-clause-takes : goal.returns-in-Err-clause-takes
returns-in-Err-clause-takes c = λ n le. let r = c.loop-operation.invariant.rest n le in r.2 ∙ change_cut c.elements_in_turn.ensures.numbers r.0 _ c.loop-operation.bits r.1 c.in-Err.ensures.takes

pub returns-then-operation-eq3-clause-takes : goal.returns-then-operation-eq3-clause-takes
returns-then-operation-eq3-clause-takes c = λ n le. let r = c.loop-operation.invariant.rest n le in r.2 ∙ change_last c.elements_in_turn.ensures.numbers r.0 c.in-Ok.operation c.loop-operation.bits _ r.1 c.in-Ok.ensures.takes c.if-operation-eq3.true

pub returns-in-Err-read_ue-clause-takes : goal.returns-in-Err-read_ue-clause-takes
returns-in-Err-read_ue-clause-takes c = λ n le. let r = c.loop-operation.invariant.rest n le in r.2 ∙ change_half c.elements_in_turn.ensures.numbers r.0 c.in-Ok.operation _ c.loop-operation.bits _ r.1 c.in-Ok.ensures.takes c.if-operation-eq3.false c.in-Err-read_ue.ensures.takes

pub loop-operation-preserved : goal.loop-operation-preserved
loop-operation-preserved c =
    let s1 = c.in-Ok.ensures.shorter in
    let s2 = c.in-Ok-read_ue.ensures.shorter in
    record {
      shorter = omega (arith, c.loop-operation.invariant.shorter, s1, s2);
      rest = λ n le.
          let r = c.loop-operation.invariant.rest n le in
          let k = change_more c.elements_in_turn.ensures.numbers r.0 c.in-Ok.operation _ c.loop-operation.bits _ _ s1 s2 r.1 c.in-Ok.ensures.takes c.if-operation-eq3.false c.in-Ok-read_ue.ensures.takes in
          (k.0, k.1, r.2 ∙ k.2);
    }

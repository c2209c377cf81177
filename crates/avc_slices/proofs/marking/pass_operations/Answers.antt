use Rattle.std.proofs.Common.{◌∙◌, refl, arith}
use Rattle.avc_slices.proofs.Repeating.{operation_more, operation_last, operation_cut, operation_half}
use Rattle.avc_slices.proofs.marking.pass_operations.Goals as goal

pub loop-operation-init : goal.loop-operation-init
loop-operation-init c = record {
  shorter = omega arith;
  rest = λ n le. (n, le, refl);
}

pub returns-in-Err-clause-takes : goal.returns-in-Err-clause-takes
returns-in-Err-clause-takes c = λ n le. let r = c.loop-operation.invariant.rest n le in r.2 ∙ operation_cut c.elements_in_turn.ensures.numbers r.0 _ c.loop-operation.bits r.1 c.in-Err.ensures.takes

pub returns-then-operation-eq0-clause-takes : goal.returns-then-operation-eq0-clause-takes
returns-then-operation-eq0-clause-takes c = λ n le. let r = c.loop-operation.invariant.rest n le in r.2 ∙ operation_last c.elements_in_turn.ensures.numbers r.0 c.in-Ok.operation c.loop-operation.bits _ r.1 c.in-Ok.ensures.takes c.if-operation-eq0.true

pub returns-in-Err-pass_operands-clause-takes : goal.returns-in-Err-pass_operands-clause-takes
returns-in-Err-pass_operands-clause-takes c = λ n le. let r = c.loop-operation.invariant.rest n le in r.2 ∙ operation_half c.elements_in_turn.ensures.numbers c.elements_in_turn.ensures.passed r.0 c.in-Ok.operation _ c.loop-operation.bits _ r.1 c.in-Ok.ensures.takes c.if-operation-eq0.false c.in-Err-pass_operands.ensures.takes

pub loop-operation-preserved : goal.loop-operation-preserved
loop-operation-preserved c =
    let s1 = c.in-Ok.ensures.shorter in
    let s2 = c.in-Ok-pass_operands.ensures.shorter in
    record {
      shorter = omega (arith, c.loop-operation.invariant.shorter, s1, s2);
      rest = λ n le.
          let r = c.loop-operation.invariant.rest n le in
          let k = operation_more c.elements_in_turn.ensures.numbers c.elements_in_turn.ensures.passed r.0 c.in-Ok.operation c.loop-operation.bits _ _ s1 s2 r.1 c.in-Ok.ensures.takes c.if-operation-eq0.false c.in-Ok-pass_operands.ensures.takes in
          (k.0, k.1, r.2 ∙ k.2);
    }

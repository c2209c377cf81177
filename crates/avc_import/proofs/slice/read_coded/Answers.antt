use Rattle.std.proofs.Common.{arith}
use Rattle.avc_import.proofs.Identifying.{nothing_refused}
use Rattle.avc_import.proofs.Slicing.{front_err, front_ok}
use Rattle.avc_import.proofs.slice.read_coded.Goals as goal

pub returns-in-Err-clause-slice : goal.returns-in-Err-clause-slice
returns-in-Err-clause-slice g c = nothing_refused _ _ _ c.in-Err.ensures.refusal

pub returns-in-Ok-slice_in_front-clause-slice : goal.returns-in-Ok-slice_in_front-clause-slice
returns-in-Ok-slice_in_front-clause-slice g c =
    let i = c.loop-front.invariant in
    let read = c.in-Ok.ensures in
    front_ok _ c.args.span.from c.args.span.from c.loop-front.len c.args.span.len c.args.sets.now c.in-Ok.front.items _ c.in-Ok-slice_in_front.slice c.deref.ensures.value c.fronts_suffice.ensures c.fronts_are_cleaned.ensures
    (omega (arith, read.len, i.some)) i.inside (rw i.same at read.bytes) c.in-Ok-slice_in_front.ensures.slice

pub returns-then-is_final-clause-slice : goal.returns-then-is_final-clause-slice
returns-then-is_final-clause-slice g c =
    let i = c.loop-front.invariant in
    let read = c.in-Ok.ensures in
    front_err _ c.args.span.from c.args.span.from c.loop-front.len c.args.span.len c.args.sets.now c.in-Ok.front.items _ c.in-Err-Bad.bad c.deref.ensures.value c.fronts_suffice.ensures c.fronts_are_cleaned.ensures
    (omega (arith, read.len, i.some)) i.inside (c.is_final.ensures.last c.if-is_final.true) (rw i.same at read.bytes) (rw c.in-Err-Bad.field-0-is at c.in-Err-Bad.ensures.slice)

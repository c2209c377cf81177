use Rattle.std.proofs.Common.{◌∙◌, ◌<◌, sym, length, arith}
use Rattle.avc_import.proofs.Limiting.{late_at, late_end, late_here, late_is_not, late_is_so, late_none, late_on}
use Rattle.avc_import.proofs.limits.is_late.Goals as goal

pub loop-k-init : goal.loop-k-init
loop-k-init c = late_none (late_at c.args.shown.now c.args.schedule) (length c.args.shown.now)

pub returns-then-offset-from : goal.returns-then-offset-from
returns-then-offset-from c =
    let inside : c.loop-k.k < length c.args.shown.now = omega (arith, c.loop-k-test.true) in
    let late = late_is_so c.args.shown.now c.args.schedule c.loop-k.k c.offset.result c.offset.ensures (omega (arith, c.if-offset-from.true, c.from.ensures)) in
    sym (late_here (late_at c.args.shown.now c.args.schedule) c.loop-k.k (length c.args.shown.now) inside late) ∙ c.loop-k.invariant

pub loop-k-preserved : goal.loop-k-preserved
loop-k-preserved c =
    let inside : c.loop-k.k < length c.args.shown.now = omega (arith, c.loop-k-test.true) in
    let early = late_is_not c.args.shown.now c.args.schedule c.loop-k.k c.offset.result c.offset.ensures (omega (arith, c.if-offset-from.false, c.from.ensures)) in
    late_on (late_at c.args.shown.now c.args.schedule) c.loop-k.k (length c.args.shown.now) inside early ∙ c.loop-k.invariant

pub returns : goal.returns
returns c = sym (late_end (late_at c.args.shown.now c.args.schedule) c.loop-k.k (length c.args.shown.now) (omega (arith, c.loop-k-test.false))) ∙ c.loop-k.invariant

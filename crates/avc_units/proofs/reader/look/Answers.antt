use Rattle.std.proofs.Common.{arith}
use Rattle.avc_units.proofs.Answering.{gives_empty, gives_long, gives_unit}
use Rattle.avc_units.proofs.reader.look.Goals as goal

pub returns-then-behind-from-clause-gives : goal.returns-then-behind-from-clause-gives
returns-then-behind-from-clause-gives g c =
    let i = rw c.in-Ok-Some.field-0-is at c.in-Ok-Some.ensures.inside in
    let first = rw c.in-Ok-Some.field-0-is at c.in-Ok-Some.ensures.first in
    rw c.refused-then-behind-from.ensures (gives_empty _ c.args.end c.in-Ok.behind c.in-Ok-Some.first first i.low c.if-first-ne1.false c.if-first-end-lt2.false (rw c.in-Ok-Some.ensures.same at c.in-Ok.ensures.end) c.if-behind-from.true)

pub returns-then-behind-from-gt-LONGEST_UNIT-clause-gives : goal.returns-then-behind-from-gt-LONGEST_UNIT-clause-gives
returns-then-behind-from-gt-LONGEST_UNIT-clause-gives g c =
    let i = rw c.in-Ok-Some.field-0-is at c.in-Ok-Some.ensures.inside in
    let first = rw c.in-Ok-Some.field-0-is at c.in-Ok-Some.ensures.first in
    rw c.refused-then-behind-from-gt-LONGEST_UNIT.ensures (gives_long _ c.args.end c.in-Ok.behind c.in-Ok-Some.first first i.low c.if-first-ne1.false c.if-first-end-lt2.false (rw c.in-Ok-Some.ensures.same at c.in-Ok.ensures.end) c.if-behind-from-gt-LONGEST_UNIT.true)

pub returns-clause-gives : goal.returns-clause-gives
returns-clause-gives g c =
    let i = rw c.in-Ok-Some.field-0-is at c.in-Ok-Some.ensures.inside in
    let first = rw c.in-Ok-Some.field-0-is at c.in-Ok-Some.ensures.first in
    gives_unit _ c.args.end c.in-Ok.behind c.in-Ok-Some.first first i.low c.if-first-ne1.false c.if-first-end-lt2.false (rw c.in-Ok-Some.ensures.same at c.in-Ok.ensures.end) (omega (arith, c.in-Ok.ensures.inside, c.if-behind-from.false))

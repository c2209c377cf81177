use Rattle.std.proofs.Common.{ap, ◌∙◌, arith}
use Rattle.std.specs.Prelude.{unsigned_abs}
use Rattle.mp_chunks.proofs.SizesArePushed.{all_have, cast_fits, one_differs, stretch_cast}
use Rattle.mp_chunks.proofs.push.size_of_all.Goals as goal

pub returns-then-first-len : goal.returns-then-first-len
returns-then-first-len g c = one_differs _ _ _ c.in-Some.first c.at.ensures c.requires c.in-Some.ensures.next (omega (arith, c.if-first-len.true, c.len.ensures.count))

pub size_of-requires : goal.size_of-requires
size_of-requires g c = cast_fits _ _ _ c.in-Some.first c.requires c.in-Some.ensures.next

pub returns : goal.returns
returns g c =
    c.size_of.ensures
    ∙ (ap unsigned_abs (stretch_cast _ _ _ c.in-Some.first c.requires c.in-Some.ensures.next)
    ∙ all_have _ _ _ c.in-Some.first c.at.ensures c.in-Some.ensures.next (omega (arith, c.if-first-len.false, c.len.ensures.count, c.in-Some.ensures.next.end, c.in-Some.ensures.next.inside, c.at.ensures)))

use Rattle.std.proofs.Common.{refl, arith}
use Rattle.mp_pieces.proofs.Parts.{still_stands}
use Rattle.mp_pieces.proofs.stand.put.Goals as goal

pub returns-clause-stands : goal.returns-clause-stands
returns-clause-stands c = λ s stands.
    let begin = c.max.ensures in
    let end = c.max-2.ensures in
    let kept = c.put_at-kept.ensures.end in
    still_stands s _ _ c.args.stand _ c.put_at-kept.result (omega (arith, begin)) (omega (arith, begin)) (omega (arith, begin, end, stands.ahead)) (omega (arith, end, kept, c.requires.room, stands.room))
    (omega (arith, begin)) (omega (arith, end)) (omega (arith, begin, end, stands.ahead)) refl refl c.put_at-kept.ensures.room c.put_at-kept.ensures.behind stands

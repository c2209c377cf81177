use Rattle.std.proofs.Common.{arith, List, ◌≡◌, [], drop, map, ap, subst}
use Rattle.mp_clip.specs.declared.cut.Cut.{Cut}
use Rattle.mp_clip.specs.Cut.{LeadsTo, cuts_of, piece_of}
use Rattle.mp_clip.proofs.Pieces.{at-end}
use Rattle.mp_clip.proofs.Telling.{all_told}
use Rattle.mp_clip.proofs.clipping.pieces.Goals as goal

pub returns : goal.returns
returns c =
    let scales = c.args.scales in
    let edits = c.args.edits.now in
    let none : cuts_of scales c.loop-segment.begin c.loop-segment.end (drop c.loop-segment.segment-index c.args.edits.now) ≡ [] = ap (cuts_of scales c.loop-segment.begin c.loop-segment.end) (at-end c.args.edits.now c.loop-segment.segment-index (omega (arith, c.loop-segment-test.false))) in
    let all = map (piece_of scales) (cuts_of scales c.args.from c.args.to edits) in
    all_told scales c.args.new all c.loop-segment.made.items (subst (λ (left : List Cut). LeadsTo scales c.args.new all c.loop-segment.made.items left) none c.loop-segment.invariant.leads)

use Rattle.std.proofs.Common.{◌+◌, ◌*◌, List, drop, map, arith, ap, subst, refl}
use Rattle.mp_timeline.specs.declared.segment.Segment.{Segment}
use Rattle.mp_clip.specs.declared.cut.Cut.{Cut}
use Rattle.mp_clip.specs.Cut.{cuts_of, piece_of}
use Rattle.mp_clip.proofs.Pieces.{at-end, cuts-next}
use Rattle.mp_clip.proofs.Touches.{LeadsToSpans, all_touched, leads_further}
use Rattle.mp_clip.proofs.touching.spans_of.Goals as goal

pub loop-segment-preserved : goal.loop-segment-preserved
loop-segment-preserved c =
    let scales = c.args.scales in
    let all = map (piece_of scales) (cuts_of scales c.args.from c.args.to c.args.edits.now) in
    let left = cuts_of scales c.behind-begin.result c.behind-end.result (drop (c.loop-segment.segment-index + 1) c.args.edits.now) in
    let next = cuts-next scales c.loop-segment.begin c.loop-segment.end c.args.edits.now c.loop-segment.segment-index _ _ c.behind-begin.result c.behind-end.result c.loop-segment-test.true refl c.behind-begin.ensures c.behind-end.ensures in
    leads_further scales (scales.movie * (scales.from * scales.to)) all c.loop-segment.spans.items _ _ left c.span_of-span.result c.span_of-span.ensures c.in-Ok.ensures
    (subst (λ (cuts : List Cut). LeadsToSpans (scales.movie * (scales.from * scales.to)) all c.loop-segment.spans.items (map (piece_of scales) cuts)) next c.loop-segment.invariant)

pub returns : goal.returns
returns c =
    let scales = c.args.scales in
    let all = map (piece_of scales) (cuts_of scales c.args.from c.args.to c.args.edits.now) in
    let none = ap (λ (segments : List Segment). map (piece_of scales) (cuts_of scales c.loop-segment.begin c.loop-segment.end segments)) (at-end c.args.edits.now c.loop-segment.segment-index (omega (arith, c.loop-segment-test.false))) in
    all_touched (scales.movie * (scales.from * scales.to)) all _ c.loop-segment.spans.items none c.loop-segment.invariant

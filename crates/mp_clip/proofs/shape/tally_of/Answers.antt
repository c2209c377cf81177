use Rattle.std.proofs.Common.{◌*◌, ◌+◌, List, drop, subst}
use Rattle.mp_clip.specs.declared.cut.Cut.{Cut}
use Rattle.mp_clip.specs.Counted.{IsCounted}
use Rattle.mp_clip.specs.Cut.{cuts_of}
use Rattle.mp_clip.proofs.Pieces.{cuts-next}
use Rattle.mp_clip.proofs.shape.tally_of.Goals as goal

pub loop-segment-preserved : goal.loop-segment-preserved
loop-segment-preserved c =
    let scales = c.args.scales in
    let edits = c.args.edits.now in
    let all = cuts_of scales c.args.from c.args.to edits in
    let left = cuts_of scales c.behind-begin.result c.behind-end.result (drop (c.loop-segment.segment-index + 1) edits) in
    let next = cuts-next scales c.loop-segment.begin c.loop-segment.end edits c.loop-segment.segment-index _ c.cut_of.result c.behind-begin.result c.behind-end.result c.loop-segment-test.true c.cut_of.ensures c.behind-begin.ensures c.behind-end.ensures in
    c.counted-tally.ensures (scales.movie * scales.from) (scales.from * scales.to) all left
    (subst (λ (cuts : List Cut). IsCounted (scales.movie * scales.from) (scales.from * scales.to) all c.loop-segment.tally cuts) next c.loop-segment.invariant)

use Rattle.std.proofs.Common.{arith, List, sym, subst}
use Rattle.mp_timeline.specs.declared.segment.Segment.{Segment}
use Rattle.mp_edits.specs.Segments.{total}
use Rattle.mp_clip.specs.Clipped.{unit}
use Rattle.mp_clip.specs.Shape.{GivesShape}
use Rattle.mp_clip.proofs.Pieces.{clipped_is, cuts_short, room}
use Rattle.mp_clip.proofs.shape.clip_shape.Goals as goal

pub tally_of-tally-requires-clause-room : goal.tally_of-tally-requires-clause-room
tally_of-tally-requires-clause-room c =
    let short = cuts_short (record { media = c.args.media_scale; movie = c.args.movie_scale; from = c.args.from.d; to = c.args.to.d }) c.ticks.result c.ticks-2.result c.args.edits.now in
    let most = room (total c.args.edits.now) c.args.from.d c.args.to.d c.requires.short (omega arith) (omega arith) in
    omega (arith, short, most)

pub returns : goal.returns
returns c =
    let counted = rw (c.ticks.ensures, c.ticks-2.ensures) at c.tally_of-tally.ensures in
    subst (λ (pieces : List Segment). GivesShape c.args.media_scale c.args.movie_scale (unit c.args.media_scale c.args.movie_scale c.args.from c.args.to) pieces c.shape_of.result)
    (sym (clipped_is c.args.media_scale c.args.movie_scale c.args.from c.args.to c.args.edits.now c.requires.media)) (c.shape_of.ensures _ counted)

use Rattle.std.proofs.Common.{List, subst}
use Rattle.mp_timeline.specs.declared.segment.Segment.{Segment}
use Rattle.mp_clip.specs.declared.clipping.NewScales.{NewScales}
use Rattle.mp_clip.specs.declared.cut.Scales.{Scales}
use Rattle.mp_clip.specs.Clipped.{CanTell, unit}
use Rattle.mp_clip.proofs.Pieces.{clipped_is}
use Rattle.mp_clip.proofs.Telling.{can_tell, unit_some}
use Rattle.mp_clip.proofs.clipping.clip_back.Goals as goal

pub pieces-requires-clause-told : goal.pieces-requires-clause-told
pieces-requires-clause-told c =
    let scales : Scales = record { media = c.args.media_scale; movie = c.args.movie_scale; from = c.args.from.d; to = c.args.to.d } in
    let new : NewScales = record { media = c.args.new_media; movie = c.args.new_movie; back = c.args.back } in
    let some = unit_some scales c.requires.media c.requires.movie c.requires.range.some_begin.some c.requires.range.some_end.some in
    let told =
    subst (λ (pieces : List Segment). CanTell (unit c.args.media_scale c.args.movie_scale c.args.from c.args.to) c.args.new_media c.args.new_movie c.args.back pieces)
    (clipped_is c.args.media_scale c.args.movie_scale c.args.from c.args.to c.args.edits.now c.requires.media) c.requires.told in
    rw (c.ticks.ensures, c.ticks-2.ensures) (can_tell scales new c.wholeness_is_division.ensures _ some c.requires.media c.requires.range.some_end.some told)

pub returns : goal.returns
returns c =
    let made = rw (c.ticks.ensures, c.ticks-2.ensures) at c.pieces.ensures in
    rw (clipped_is c.args.media_scale c.args.movie_scale c.args.from c.args.to c.args.edits.now c.requires.media) made

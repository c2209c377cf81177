use Rattle.std.proofs.Common.{◌<◌, All, subst, sym}
use Rattle.mp_edits.specs.EditBox.{segments_in}
use Rattle.mp_movie.specs.Placed.{PlacedMovie, PlacedTrack}
use Rattle.track_ops.specs.Scales.{CanLast}
use Rattle.track_ops.proofs.SetAt.{any_track, cleared_can, cleared_inside, cleared_shown}
use Rattle.track_ops.proofs.delaying.show.Goals as goal

pub set_parts_scale-requires-clause-some : goal.set_parts_scale-requires-clause-some
set_parts_scale-requires-clause-some c = subst (λ (m : PlacedMovie). 0 < m.scale) (sym (c.clear_edits_at.ensures any_track)) c.requires.old

pub set_parts_scale-requires-clause-short : goal.set_parts_scale-requires-clause-short
set_parts_scale-requires-clause-short c =
    subst (λ (m : PlacedMovie). All (λ (t : PlacedTrack). All (CanLast m.scale c.args.showing.movie) (segments_in t.edits)) m.tracks) (sym (c.clear_edits_at.ensures any_track)) (c.requires.short any_track)

pub retime_at-requires-clause-inside : goal.retime_at-requires-clause-inside
retime_at-requires-clause-inside c =
    cleared_inside c.args.at c.args.showing.movie any_track c.args.parts.now c.clear_edits_at.new.parts c.set_parts_scale.new.parts c.requires.inside (c.clear_edits_at.ensures any_track) c.set_parts_scale.ensures.parts

pub retime_at-requires-clause-track : goal.retime_at-requires-clause-track
retime_at-requires-clause-track c = λ e.
    cleared_can c.args.at c.args.showing.movie c.args.showing.media any_track e c.args.parts.now c.clear_edits_at.new.parts c.set_parts_scale.new.parts c.requires.inside (c.clear_edits_at.ensures any_track) c.set_parts_scale.ensures.parts
    (c.requires.track any_track)

pub returns-clause-shown : goal.returns-clause-shown
returns-clause-shown c = λ d.
    cleared_shown c.args.at c.args.showing.movie c.args.showing.media c.args.showing.edits.items d any_track c.args.parts.now c.clear_edits_at.new.parts c.set_parts_scale.new.parts c.retime_at.new.parts c.requires.inside
    (c.clear_edits_at.ensures d) c.set_parts_scale.ensures.parts (c.retime_at.ensures.parts any_track)

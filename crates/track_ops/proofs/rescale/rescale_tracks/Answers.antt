use Rattle.std.proofs.Common.{All, subst, sym}
use Rattle.mp_edits.specs.EditBox.{segments_in}
use Rattle.mp_movie.specs.Placed.{PlacedTrack}
use Rattle.track_ops.specs.Kept.{kept_in_scale}
use Rattle.track_ops.specs.Scales.{CanLast}
use Rattle.track_ops.proofs.Changing.{changed_next, same_item}
use Rattle.track_ops.proofs.rescale.rescale_tracks.Goals as goal

pub rescale_track-requires-clause-short : goal.rescale_track-requires-clause-short
rescale_track-requires-clause-short c =
    subst (λ (track : PlacedTrack). All (CanLast c.args.old c.args.new) (segments_in track.edits))
    (sym (same_item (kept_in_scale c.args.old c.args.new) c.loop-track.tracks c.args.tracks.now c.loop-track.track-index c.track-item.result c.loop-track-test.true c.loop-track.invariant))
    (c.requires.short c.loop-track.track-index c.track-item.result c.loop-track-test.true)

pub loop-track-preserved : goal.loop-track-preserved
loop-track-preserved c =
    changed_next (kept_in_scale c.args.old c.args.new) c.loop-track.tracks c.args.tracks.now c.loop-track.track-index c.track-item.result c.rescale_track.new.track c.loop-track-test.true c.loop-track.invariant
    c.rescale_track.ensures

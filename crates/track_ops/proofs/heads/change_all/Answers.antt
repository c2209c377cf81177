use Rattle.track_ops.specs.Kept.{with_head_at}
use Rattle.track_ops.proofs.Changing.{changed_next}
use Rattle.track_ops.proofs.heads.change_all.Goals as goal

pub loop-track-preserved : goal.loop-track-preserved
loop-track-preserved c =
    changed_next (with_head_at c.args.number c.args.change) c.loop-track.tracks c.args.tracks.now c.loop-track.track-index c.track-item.result c.change_one.new.track c.loop-track-test.true c.loop-track.invariant
    c.change_one.ensures

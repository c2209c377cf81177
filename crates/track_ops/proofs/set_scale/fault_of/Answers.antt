use Rattle.std.proofs.Common.{rules}
use Rattle.track_ops.proofs.TrackFaults.{limit_is_late, limit_of_samples, no_fault, not_whole}
use Rattle.track_ops.proofs.set_scale.fault_of.Goals as goal

pub returns-then-not-ticks_are_whole : goal.returns-then-not-ticks_are_whole
returns-then-not-ticks_are_whole c = not_whole c.args.scale c.args.track.now c.ticks_are_whole.result c.ticks_are_whole.ensures (search rules)

pub returns-in-Some : goal.returns-in-Some
returns-in-Some c =
    limit_of_samples c.args.scale c.args.track.now c.ticks_are_whole.result c.in-Some.code c.ticks_are_whole.ensures (search rules) c.in-Some.ensures

pub returns-then-some_late_in : goal.returns-then-some_late_in
returns-then-some_late_in c =
    limit_is_late c.args.scale c.args.track.now c.ticks_are_whole.result c.some_late_in.result c.ticks_are_whole.ensures (search rules) c.in_default.ensures (search rules) (search rules)

pub returns : goal.returns
returns c =
    no_fault c.args.scale c.args.track.now c.ticks_are_whole.result c.some_late_in.result c.ticks_are_whole.ensures (search rules) c.in_default.ensures (search rules) (search rules)

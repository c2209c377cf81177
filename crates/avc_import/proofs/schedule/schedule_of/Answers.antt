use Rattle.std.proofs.Common.{arith}
use Rattle.avc_import.proofs.Scaling.{ticks_few}
use Rattle.avc_import.proofs.schedule.schedule_of.Goals as goal

pub overflow_cast-result : goal.overflow_cast-result
overflow_cast-result c =
    let few = ticks_few c.args.time c.requires.whole in
    rw (c.ticks_in.ensures, c.track_scale-scale.ensures) (omega (arith, few, c.requires.short))

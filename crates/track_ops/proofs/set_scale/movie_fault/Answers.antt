use Rattle.std.proofs.Common.{rules, refl}
use Rattle.std.specs.Prelude.{Some, None, true, false}
use Rattle.mp_ports.specs.declared.code.Code.TheVariants.{DurationLimit}
use Rattle.track_ops.proofs.MovieScaleIsSet.{whole_fails, whole_passes}
use Rattle.track_ops.proofs.set_scale.movie_fault.Goals as goal

pub returns-then-not-is_whole : goal.returns-then-not-is_whole
returns-then-not-is_whole c =
    whole_fails c.args.scale c.scale_of-old.result c.args.movie.now c.edits_of-edits.result c.is_whole.result c.edits_of-edits.ensures.summary c.scale_of-old.ensures.scale c.is_whole.ensures (search rules)

pub returns-then-lasts_long : goal.returns-then-lasts_long
returns-then-lasts_long c =
    let long = c.lasts_long.ensures in
    whole_passes c.args.scale c.scale_of-old.result c.args.movie.now c.edits_of-edits.result c.is_whole.result true (Some DurationLimit) c.edits_of-edits.ensures.fits c.edits_of-edits.ensures.summary c.scale_of-old.ensures.scale c.is_whole.ensures
    (search rules) (search rules) refl

pub returns : goal.returns
returns c =
    whole_passes c.args.scale c.scale_of-old.result c.args.movie.now c.edits_of-edits.result c.is_whole.result false None c.edits_of-edits.ensures.fits c.edits_of-edits.ensures.summary c.scale_of-old.ensures.scale c.is_whole.ensures (search rules)
    (search rules) refl

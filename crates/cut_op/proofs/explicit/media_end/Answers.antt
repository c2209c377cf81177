use Rattle.std.proofs.Common.{rules, ◌≡◌, ◌<◌, ◌^◌, [], arith, length, sym, ap, ◌∙◌, subst}
use Rattle.mp_movie.specs.Durations.{extent}
use Rattle.mp_movie.specs.StandsFor.{samples_of}
use Rattle.cut_op.proofs.ShortMedia.{extent_short}
use Rattle.cut_op.proofs.explicit.media_end.Goals as goal

pub overflow_cast-result : goal.overflow_cast-result
overflow_cast-result c =
    let short = extent_short [] c.args.track.now c.requires (search rules) in
    omega (arith, short, c.extent.ensures.latest [])

pub returns-clause-short : goal.returns-clause-short
returns-clause-short c =
    let short = extent_short [] c.args.track.now c.requires (search rules) in
    omega (arith, short, c.extent.ensures.latest [])

use Rattle.std.proofs.Common.{[]}
use Rattle.cut_op.proofs.AllScales.{more_answers, no_shape, none_answers, some_answers}
use Rattle.cut_op.proofs.plan.scale_with.Goals as goal

pub returns-in_default-clause-none : goal.returns-in_default-clause-none
returns-in_default-clause-none c = λ files before behind can has.
    no_shape files c.args.old c.args.from c.args.to c.requires.movie c.requires.range.some_begin.some c.requires.range.some_end.some c.least_scales_are_found.ensures before behind c.args.track.now can (c.in_default.ensures files)

pub lcm-requires-clause-second : goal.lcm-requires-clause-second
lcm-requires-clause-second c = (c.in-Some.ensures []).movie_scale.0.some

pub returns-clause-some : goal.returns-clause-some
returns-clause-some c =
    some_answers c.wholeness_is_division.ensures c.args.old c.args.from c.args.to c.args.track.now c.in-Some.shape c.args.scale c.lcm.result c.requires.movie c.requires.range.some_begin.some c.requires.range.some_end.some
    c.requires.track.scale c.in-Some.ensures c.lcm.ensures

pub returns-clause-more : goal.returns-clause-more
returns-clause-more c = more_answers c.args.scale c.in-Some.shape.movie_scale c.lcm.result c.requires.scale (c.in-Some.ensures []).movie_scale.0.some c.lcm.ensures

pub returns-clause-none : goal.returns-clause-none
returns-clause-none c =
    none_answers c.least_scales_are_found.ensures c.args.old c.args.from c.args.to c.args.track.now c.in-Some.shape c.args.scale c.lcm.result c.requires.movie c.requires.range.some_begin.some c.requires.range.some_end.some c.in-Some.ensures
    c.lcm.ensures

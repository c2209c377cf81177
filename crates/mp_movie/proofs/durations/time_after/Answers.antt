use Rattle.std.proofs.Common.{rules, ◌∙◌, ap}
use Rattle.std.specs.Prelude.{unsigned_abs}
use Rattle.std.specs.Int.{w128}
use Rattle.std.proofs.lemmas.Int.{to_z-of_z}
use Rattle.mp_movie.proofs.LatestEnds.{time_is, time_is_short}
use Rattle.mp_movie.proofs.durations.time_after.Goals as goal

pub returns-clause-time : goal.returns-clause-time
returns-clause-time c = c.unsigned_abs.ensures.value ∙ ap unsigned_abs (to_z-of_z w128 c.prefix.result (search rules) ∙ (c.prefix.ensures ∙ time_is c.args.durations.now c.args.count c.requires.natural))

pub returns-clause-short : goal.returns-clause-short
returns-clause-short c =
    rw (c.unsigned_abs.ensures.value ∙ ap unsigned_abs (to_z-of_z w128 c.prefix.result (search rules) ∙ (c.prefix.ensures ∙ time_is c.args.durations.now c.args.count c.requires.natural)))
    (time_is_short c.args.durations.now c.args.count c.args.most c.requires.most (search rules) c.requires.few)

use Rattle.std.proofs.Common.{rules, ◌<◌}
use Rattle.mp_interleave.proofs.DecodeTimes.{end-behind, end-inside}
use Rattle.mp_interleave.proofs.times.window_end.Goals as goal

pub returns-clause-inside : goal.returns-clause-inside
returns-clause-inside c =
    let some : 0 < c.args.millis = search rules in
    end-inside c.args.millis c.args.scale c.args.decode c.window_unit-unit.result c.first_tick.result some c.window_unit-unit.ensures.unit c.window_unit-unit.ensures.some c.first_tick.ensures.before

pub returns-clause-behind : goal.returns-clause-behind
returns-clause-behind c =
    let some : 0 < c.args.millis = search rules in
    λ time short le. end-behind c.args.millis c.args.scale c.args.decode c.window_unit-unit.result c.first_tick.result some c.window_unit-unit.ensures.unit c.window_unit-unit.ensures.some c.first_tick.ensures.behind time le

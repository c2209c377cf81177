use Rattle.std.proofs.Common.{rules, pos, FitsSigned, w64, ◌∙◌}
use Rattle.std.specs.Int.{w128}
use Rattle.std.proofs.lemmas.Int.{ints, to_z-of_z}
use Rattle.std.proofs.Math.Facts.{sfits_widen}
use Rattle.mp_columns.proofs.Summing.{added_is}
use Rattle.mp_columns.proofs.sums.add_run.Goals as goal

pub returns : goal.returns
returns c =
    let count_fits : FitsSigned w128 (pos c.args.count) = search (rules, ints) in
    added_is c.args.sum c.args.value c.from.result c.from-2.result c.args.count (c.from.ensures ∙ to_z-of_z w64 c.args.value c.ranges.value) c.from-2.ensures (search rules) c.ranges.value c.ranges.sum (sfits_widen tt c.ranges.value) count_fits c.requires.low c.requires.high

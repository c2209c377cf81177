use Rattle.std.proofs.Common.{rules, arith, ap, w64, ◌∙◌}
use Rattle.std.specs.Prelude.{unsigned_abs}
use Rattle.std.proofs.lemmas.Int.{to_z-of_z}
use Rattle.mp_layout.proofs.ColumnSums.{sum-next}
use Rattle.mp_layout.proofs.places.range_sum.Goals as goal

pub loop-i-preserved : goal.loop-i-preserved
loop-i-preserved c =
    let here = c.loop-i-test.true in
    let inside = c.requires.inside in
    let same = to_z-of_z w64 c.at.result (search rules) in
    omega (arith, c.loop-i.invariant, sum-next c.args.column.now c.loop-i.i (omega (arith, here, inside)), c.unsigned_abs-sum.ensures, ap unsigned_abs (same ∙ c.at.ensures))

use Rattle.std.proofs.Common.{ℤ, List, map, subst}
use Rattle.std.specs.Prelude.{unsigned_abs}
use Rattle.mp_frac.specs.Divisors.{IsGreatestCommon}
use Rattle.mp_columns.proofs.ValuesOfRuns.{divisor-items}
use Rattle.mp_columns.proofs.run_column.RunColumnColumn.common_divisor.Goals as goal

pub returns : goal.returns
returns c =
    let ends = c.self.inside.kept.ends.items in
    let values = c.self.inside.kept.values.items in
    let divisor = c.divisor_of.result in
    subst (λ (xs : List ℤ). IsGreatestCommon (map unsigned_abs xs) divisor) c.self.view_is
    (divisor-items ends values divisor c.self.invariant.longest (subst (λ (xs : List ℤ). IsGreatestCommon (map unsigned_abs xs) divisor) c.deref.ensures.value c.divisor_of.ensures))

use Rattle.std.proofs.Common.{rules, refl, w64, of_z, ap}
use Rattle.std.proofs.lemmas.Int.{to_z-of_z}
use Rattle.mp_columns.proofs.LongestRuns.{same_items, one_is_alike, more_is_alike, ends_at_another, ends_with_the_list}
use Rattle.mp_columns.proofs.walks.run_at.Goals as goal

pub loop-to-init : goal.loop-to-init
loop-to-init c = one_is_alike _ _ c.requires.inside

pub loop-to-preserved : goal.loop-to-preserved
loop-to-preserved c = more_is_alike _ _ _ c.loop-to.invariant (search rules) (same_items _ _ (search rules) (search rules) c.if-items-to.false)

pub returns-then-items-to : goal.returns-then-items-to
returns-then-items-to c = ends_at_another _ _ _ _ c.loop-to.invariant (to_z-of_z w64 _ (search rules)) (λ e. c.if-items-to.true (ap (of_z w64) e))

pub returns : goal.returns
returns c = ends_with_the_list _ _ _ _ _ c.loop-to.invariant (to_z-of_z w64 _ (search rules)) refl c.loop-to-test.false

use Rattle.std.proofs.Common.{rules, w64, ◌∙◌}
use Rattle.std.proofs.lemmas.Int.{to_z-of_z}
use Rattle.mp_times.proofs.EntriesFollow.{row_is_unfolded, row_fits, all_are_unfolded}
use Rattle.mp_times.proofs.times.read_runs.Goals as goal

pub push_copies-requires : goal.push_copies-requires
push_copies-requires g c = row_fits c.loop-i.invariant c.loop-i-test.true c.u32_in-in-loop-i.ensures c.requires.few

pub loop-i-preserved : goal.loop-i-preserved
loop-i-preserved g c = row_is_unfolded c.loop-i.invariant c.loop-i-test.true c.u32_in-in-loop-i.ensures c.u32_in.ensures (to_z-of_z w64 _ (search rules) ∙ c.offset-value.ensures) c.in_ok-push_copies.ensures.ok

pub returns : goal.returns
returns g c = all_are_unfolded c.loop-i.invariant c.loop-i-test.false

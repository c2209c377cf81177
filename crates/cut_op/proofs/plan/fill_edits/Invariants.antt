use Rattle.std.proofs.Common.{◌≡◌, ℕ, List, length, drop}
use Rattle.cut_op.proofs.FillingPlans.{AreFilledTo}
use Rattle.cut_op.proofs.plan.fill_edits.Given as goal

-- the plans so far have their edits
abbrev pub invariant-loop-at : goal.invariant-loop-at
invariant-loop-at l = record {
  long : length l.plans ≡ length l.fn.plans;
  rest : drop l.at l.plans ≡ drop l.at l.fn.plans;
  filled : (files : List (List ℕ)) → AreFilledTo files l.old l.new l.from l.to l.tracks l.fn.plans l.plans l.at;
}

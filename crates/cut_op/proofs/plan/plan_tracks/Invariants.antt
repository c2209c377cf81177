use Rattle.std.proofs.Common.{ℕ, List, take}
use Rattle.cut_op.specs.Planned.{ArePlanned}
use Rattle.cut_op.proofs.plan.plan_tracks.Given as goal

-- the tracks so far are planned
abbrev pub invariant-loop-track : goal.invariant-loop-track
invariant-loop-track l = (files : List (List ℕ)) → ArePlanned files l.old l.new l.from l.to (take l.track-index l.tracks) l.plans.items l.passed

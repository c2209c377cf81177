use Rattle.std.proofs.Common.{ℕ, ◌<◌, List, take}
use Rattle.cut_op.specs.Planned.{HasScale}
use Rattle.cut_op.proofs.plan.cut_scale.Given as goal

-- the scale serves for the tracks so far
abbrev pub invariant-loop-track : goal.invariant-loop-track
invariant-loop-track l = record {
  some : 0 < l.scale;
  has : (files : List (List ℕ)) → HasScale files l.old l.from l.to (take l.track-index l.tracks) l.scale;
}

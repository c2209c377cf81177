use Rattle.std.proofs.Common.{◌≡◌, ℕ, ◌+◌, ◌*◌, ◌<◌}
use Rattle.mp_interleave.proofs.times.steps_before.Given as goal

abbrev pub invariant-loop-step : goal.invariant-loop-step
invariant-loop-step l = (l.at ≡ l.time + l.step * l.delta) × ((i : ℕ) → i < l.step → l.time + i * l.delta < l.end)

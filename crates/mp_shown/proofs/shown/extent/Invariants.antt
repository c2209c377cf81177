use Rattle.std.proofs.Common.{◌≡◌, max, drop}
use Rattle.mp_movie.specs.Durations.{extent}
use Rattle.mp_shown.proofs.shown.extent.Given as goal

-- the latest end so far, and those of the samples that are left
abbrev pub invariant-loop-sample : goal.invariant-loop-sample
invariant-loop-sample l = max l.latest (extent (drop l.sample-index l.samples)) ≡ extent l.samples

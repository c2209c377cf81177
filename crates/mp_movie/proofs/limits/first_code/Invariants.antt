use Rattle.std.proofs.Common.{◌≡◌, drop}
use Rattle.mp_ports.specs.Checks.{first_code}
use Rattle.mp_movie.proofs.limits.first_code.Given as goal

-- none of the tests so far holds
abbrev pub invariant-loop-check : goal.invariant-loop-check
invariant-loop-check l = first_code l.checks ≡ first_code (drop l.check-index l.checks)

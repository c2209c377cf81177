use Rattle.std.proofs.Common.{◌≡◌, drop}
use Rattle.avc_slices.specs.Header.{set_of}
use Rattle.avc_slices.proofs.header.set_of.Given as goal

abbrev pub invariant-loop-set : goal.invariant-loop-set
invariant-loop-set l = set_of l.pps l.number ≡ set_of (drop l.set-index l.pps) l.number

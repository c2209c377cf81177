use Rattle.std.proofs.Common.{◌≡◌, ◌-◌, ◌≤◌, length}
use Rattle.avc_units.specs.Table.{walk}
use Rattle.avc_slices.specs.Weights.{weights}
use Rattle.avc_slices.proofs.weights.pass_weights.Given as goal

-- the weights of the references that are left are read from here on
abbrev pub invariant-loop-reference : goal.invariant-loop-reference
invariant-loop-reference l = record {
  shorter : length l.bits ≤ length l.fn.bits;
  walked : walk (weights l.chroma l.count) l.fn.bits ≡ walk (weights l.chroma (l.count - l._reference)) l.bits;
}

use Rattle.std.proofs.Common.{◌≡◌, ◌<◌, ◌≤◌, ℕ, length}
use Rattle.avc_units.specs.Table.{walk}
use Rattle.avc_slices.specs.References.{changes}
use Rattle.avc_slices.proofs.references.pass_changes.Given as goal

-- whatever number of rounds is enough at first, one is enough for what is left
abbrev pub invariant-loop-operation : goal.invariant-loop-operation
invariant-loop-operation l = record {
  shorter : length l.bits ≤ length l.initial.bits;
  rest : (n : ℕ) → length l.initial.bits < n → (m : ℕ) × (length l.bits < m) × (walk (changes n) l.initial.bits ≡ walk (changes m) l.bits);
}

abbrev pub decreases-loop-operation : goal.decreases-loop-operation
decreases-loop-operation l = length l.bits

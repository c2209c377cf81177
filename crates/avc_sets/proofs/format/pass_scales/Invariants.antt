use Rattle.std.proofs.Common.{◌≡◌, ◌<◌, ℕ, ◌-◌, List}
use Rattle.avc_units.specs.Table.{walk}
use Rattle.avc_sets.specs.declared.format.Scales.{Scales}
use Rattle.avc_sets.specs.Format.{scales_of}
use Rattle.avc_sets.proofs.format.pass_scales.Given as goal

-- what is left of the list is read from here on
pub record IsPassing (entries entry : ℕ) (scales : Scales) (start bits : List ℕ) : Type 0 where
  pub small : scales.last < 256
  pub walked : walk (scales_of entries (record { last = 8; next = 8 })) start ≡ walk (scales_of (entries - entry) scales) bits

abbrev pub invariant-loop-entry : goal.invariant-loop-entry
invariant-loop-entry l = IsPassing l.entries l._entry l.scales l.fn.bits l.bits

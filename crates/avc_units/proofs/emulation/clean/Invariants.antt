use Rattle.std.proofs.Common.{◌≡◌, ◌≤◌, ◌++◌, drop}
use Rattle.avc_units.specs.Emulation.{clean, clean_behind}
use Rattle.avc_units.proofs.emulation.clean.Given as goal

abbrev pub invariant-loop-byte : goal.invariant-loop-byte
invariant-loop-byte l = record {
  few : l.zeros ≤ 2;
  so_far : l.cleaned.items ++ clean_behind l.zeros (drop l.byte-index l.unit) ≡ clean l.unit;
}

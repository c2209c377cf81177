use Rattle.std.proofs.Common.{◌≡◌, drop}
use Rattle.avc_units.specs.Table.{walk}
use Rattle.avc_sets.specs.Format.{scaling_lists}
use Rattle.avc_sets.proofs.format.pass_scaling_lists.Given as goal

-- the lists that are left are read from here on
abbrev pub invariant-loop-entries : goal.invariant-loop-entries
invariant-loop-entries l = walk (scaling_lists l.lengths) l.fn.bits ≡ walk (scaling_lists (drop l.entries-index l.lengths)) l.bits

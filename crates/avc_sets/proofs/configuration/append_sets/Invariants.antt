use Rattle.std.proofs.Common.{◌≡◌, ◌++◌, drop}
use Rattle.std.specs.List.{flat_map}
use Rattle.avc_sets.specs.Configuration.{items_of, set_bytes}
use Rattle.avc_sets.proofs.configuration.append_sets.Given as goal

-- the sets that are left are still to come
abbrev pub invariant-loop-set : goal.invariant-loop-set
invariant-loop-set l = l.out.items ++ flat_map set_bytes (items_of (drop l.set-index l.sets)) ≡ l.fn.out.items ++ flat_map set_bytes (items_of l.sets)

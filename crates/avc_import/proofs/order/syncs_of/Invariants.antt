use Rattle.std.proofs.Common.{◌≡◌, map, take}
use Rattle.avc_slices.specs.declared.slice.Slice.{Slice}
use Rattle.avc_import.proofs.order.syncs_of.Given as goal

abbrev pub invariant-loop-first : goal.invariant-loop-first
invariant-loop-first l = l.syncs.items ≡ map (λ (first : Slice). first.idr) (take l.first-index l.firsts)

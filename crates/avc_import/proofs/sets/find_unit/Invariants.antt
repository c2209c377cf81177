use Rattle.std.proofs.Common.{◌≡◌, drop}
use Rattle.avc_sets.specs.Configuration.{items_of}
use Rattle.avc_import.specs.Sets.{unit_of}
use Rattle.avc_import.proofs.sets.find_unit.Given as goal

abbrev pub invariant-loop-at : goal.invariant-loop-at
invariant-loop-at l = unit_of l.number l.pictures (items_of l.units) ≡ unit_of l.number (drop l.at l.pictures) (drop l.at (items_of l.units))

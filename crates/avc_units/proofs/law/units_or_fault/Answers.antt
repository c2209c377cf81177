use Rattle.avc_units.proofs.Faults.{units_or_fault}
use Rattle.avc_units.proofs.law.units_or_fault.Goals as goal

pub returns : goal.returns
returns c = units_or_fault

use Rattle.std.proofs.Common.{suc, ◌+◌, length, Some, None, arith}
use Rattle.mp_ports.specs.Checks.{bad_at}
use Rattle.mp_ports.specs.declared.code.Code.TheVariants.{UnitFraming}
use Rattle.avc_import.proofs.Streams.{cut_on, ends_cleanly, ends_in_fault}
use Rattle.avc_import.proofs.law.streams_are_cut.Goals as goal

pub returns : goal.returns
returns c = record {
  units = λ file us units. cut_on file 0 units.0 (suc (length file)) us None units.1 (omega arith) (λ less enough. ends_cleanly file units.0 less units.2 enough);
  fault = λ file us end at units fault. cut_on file 0 end (suc (length file)) us (Some (bad_at UnitFraming (end + at))) units (omega arith) (λ less enough. ends_in_fault file end at less fault enough);
}

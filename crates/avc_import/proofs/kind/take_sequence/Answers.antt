use Rattle.avc_import.proofs.Identifying.{nothing_refused}
use Rattle.avc_import.proofs.kind.take_sequence.Goals as goal

pub returns-in-Err-clause-unit : goal.returns-in-Err-clause-unit
returns-in-Err-clause-unit g c = nothing_refused _ _ _ c.in-Err.ensures.refusal

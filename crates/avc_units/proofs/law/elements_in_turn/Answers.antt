use Rattle.avc_units.proofs.Walking.{walk_bind}
use Rattle.avc_units.proofs.law.elements_in_turn.Goals as goal

pub returns-clause-numbers : goal.returns-clause-numbers
returns-clause-numbers g c = λ table next bits. walk_bind table next bits

pub returns-clause-flags : goal.returns-clause-flags
returns-clause-flags g c = λ table next bits. walk_bind table next bits

pub returns-clause-signed : goal.returns-clause-signed
returns-clause-signed g c = λ table next bits. walk_bind table next bits

pub returns-clause-passed : goal.returns-clause-passed
returns-clause-passed g c = λ table next bits. walk_bind table next bits

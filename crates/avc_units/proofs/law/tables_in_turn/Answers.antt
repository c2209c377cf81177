use Rattle.avc_units.proofs.Walking.{walk_bind}
use Rattle.avc_units.proofs.law.tables_in_turn.Goals as goal

pub returns : goal.returns
returns g c = λ table next bits. walk_bind table next bits

use Rattle.avc_order.proofs.Cutting.{are_access_units, are_cut_at}
use Rattle.avc_order.proofs.law.access_units_are_cut.Goals as goal

pub returns-clause-joined : goal.returns-clause-joined
returns-clause-joined g c = λ units. are_access_units units

pub returns-clause-cut : goal.returns-clause-cut
returns-clause-cut g c = λ before behind unit. are_cut_at before unit behind
